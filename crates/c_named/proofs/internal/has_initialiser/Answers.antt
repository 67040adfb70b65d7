use Rattle.std.proofs.Common.{ℕ, Option, ap}
use Rattle.std.specs.Prelude.{is_some}
use Rattle.c_named.proofs.internal.has_initialiser.Goals as goal

pub returns-in-Some : goal.returns-in-Some
returns-in-Some c = λ sense. ap (λ (o : Option ℕ). is_some o) (c.in-Some.ensures sense)

pub returns-in-None : goal.returns-in-None
returns-in-None c = λ sense. ap (λ (o : Option ℕ). is_some o) (c.in-None.ensures sense)
