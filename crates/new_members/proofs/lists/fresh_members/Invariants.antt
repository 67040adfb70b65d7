use Rattle.std.proofs.Common.{◌≡◌, ◌↔◌, ℕ, ◌<◌, Some, slice_get, Contains}
use Rattle.new_members.proofs.lists.fresh_members.Given as goal

abbrev pub invariant-loop-pair : goal.invariant-loop-pair
invariant-loop-pair l = (location : ℕ) → Contains l.list.items location ↔ ((k : ℕ) × (k < l.pair-index) × (slice_get l.call.fresh k ≡ Some (l.number, location)))
