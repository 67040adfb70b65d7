use Rattle.std.proofs.Common.{◌≡◌, ◌≢◌, ℕ, ◌<◌, Some, slice_get}
use Rattle.edge_book.proofs.effects.fresh_of.Given as goal

-- none of the pairs so far is of the function
abbrev pub invariant-loop-i : goal.invariant-loop-i
invariant-loop-i l = (k : ℕ) (pair : ℕ × ℕ) → k < l.i → slice_get l.call.fresh k ≡ Some pair → pair.0 ≢ l.number
