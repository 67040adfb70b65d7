use Rattle.std.proofs.Common.{◌≡◌, ℕ, ◌<◌, Some, slice_get}
use Rattle.sol_model.specs.Families.{Has, members}
use Rattle.set_rows.proofs.rows_core.given_calls.gives_row_pairs.Given as goal

-- none of the places so far carries it
abbrev pub invariant-loop-i : goal.invariant-loop-i
invariant-loop-i l = (k a : ℕ) → k < l.i → slice_get l.from k ≡ Some a → slice_get l.to k ≡ Some l.row → Has (members l.rows) a l.location → ⊥
