use Rattle.std.proofs.Common.{ℕ, ◌<◌}
use Rattle.sol_model.specs.Families.{Has, members}
use Rattle.sol_model.specs.Rules.{IntoEdge}
use Rattle.set_rows.specs.rows_core.Given.{IsCarried}
use Rattle.set_rows.proofs.rows_core.given.gives_contents.Given as goal

-- no copy to the objects so far carries it
abbrev pub invariant-loop-target : goal.invariant-loop-target
invariant-loop-target l = (target : ℕ) → target < l.target → Has (members l.rows) l.to target → IsCarried (IntoEdge l.system (members l.rows) target l.from) (members l.rows) l.row l.location → ⊥
