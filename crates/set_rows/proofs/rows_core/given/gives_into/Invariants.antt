use Rattle.std.proofs.Common.{ℕ, ◌<◌}
use Rattle.sol_model.specs.Families.{Has, members}
use Rattle.sol_model.specs.Rules.{PairEdge}
use Rattle.set_rows.specs.rows_core.Given.{IsCarried}
use Rattle.set_rows.proofs.rows_core.given.gives_into.Given as goal

-- none of the objects so far carries it
abbrev pub invariant-loop-from : goal.invariant-loop-from
invariant-loop-from l = (from : ℕ) → from < l.from → Has (members l.rows) l.source from → IsCarried (PairEdge l.system l.to from) (members l.rows) l.row l.location → ⊥
