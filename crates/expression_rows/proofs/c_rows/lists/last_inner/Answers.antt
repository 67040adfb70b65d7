use Rattle.std.proofs.Common.{ℕ, Option, ap}
use Rattle.std.specs.Prelude.{unwrap_or}
use Rattle.expression_rows.proofs.c_rows.lists.last_inner.Goals as goal

pub returns-in-Some : goal.returns-in-Some
returns-in-Some c = ap (λ (o : Option ℕ). unwrap_or o c.args.other) c.in-Some.ensures

pub returns-in-None : goal.returns-in-None
returns-in-None c = ap (λ (o : Option ℕ). unwrap_or o c.args.other) c.in-None.ensures
