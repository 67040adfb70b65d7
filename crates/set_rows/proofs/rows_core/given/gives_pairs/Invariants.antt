use Rattle.std.proofs.Common.{◌≡◌, ℕ, ◌<◌, Some, slice_get}
use Rattle.sol_model.specs.Families.{Has, members}
use Rattle.sol_model.specs.Places.{deep}
use Rattle.set_rows.proofs.rows_core.given.gives_pairs.Given as goal

-- none of the pairs so far carries it
abbrev pub invariant-loop-i : goal.invariant-loop-i
invariant-loop-i l = (k a : ℕ) → k < l.i → slice_get (deep l.system l.to l.from) k ≡ Some (l.row, a) → Has (members l.rows) a l.location → ⊥
