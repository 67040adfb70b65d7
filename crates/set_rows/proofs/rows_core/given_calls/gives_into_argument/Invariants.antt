use Rattle.std.proofs.Common.{ℕ, ◌<◌}
use Rattle.sol_model.specs.Families.{members}
use Rattle.sol_model.specs.Rules.{IsInArgument, PairEdge}
use Rattle.set_rows.specs.rows_core.Given.{IsCarried}
use Rattle.set_rows.proofs.rows_core.given_calls.gives_into_argument.Given as goal

-- none of the objects so far carries it
abbrev pub invariant-loop-from : goal.invariant-loop-from
invariant-loop-from l = (from : ℕ) → from < l.from → IsInArgument (members l.rows) l.call l.number l.k from → IsCarried (PairEdge l.system l.to from) (members l.rows) l.row l.location → ⊥
