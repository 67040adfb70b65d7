use Rattle.std.proofs.Common.{◌≡◌, ℕ, ◌<◌, Some, slice_get}
use Rattle.sol_model.proofs.sites.is_fresh.Given as goal

-- none of the pairs so far is the one
abbrev pub invariant-loop-pair : goal.invariant-loop-pair
invariant-loop-pair l = (k : ℕ) → k < l.pair-index → slice_get l.pair-items k ≡ Some (l.number, l.location) → ⊥
