use Rattle.std.proofs.Common.{ℕ, ◌<◌}
use Rattle.sol_model.specs.Families.{members}
use Rattle.sol_model.specs.Rules.{IsInArgument, IntoArgumentEdge}
use Rattle.set_rows.specs.rows_core.Given.{IsCarried}
use Rattle.set_rows.proofs.rows_core.given_calls.gives_copies.Given as goal

-- no copy to the objects so far carries it
abbrev pub invariant-loop-target : goal.invariant-loop-target
invariant-loop-target l = (target : ℕ) → target < l.target → IsInArgument (members l.rows) l.call l.number l.i target → IsCarried (IntoArgumentEdge l.system (members l.rows) l.call l.number target l.j) (members l.rows) l.row l.location → ⊥
