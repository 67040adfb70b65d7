use Rattle.std.proofs.Common.{◌≡◌, ℕ, ◌<◌, Some, slice_get}
use Rattle.mod_ref.specs.Gains.{Gains}
use Rattle.mod_ref.specs.Places.{IsReached}
use Rattle.mod_ref.proofs.inserting.insert_each.Given as goal

-- what is reached from the locations so far was added
abbrev pub invariant-loop-i : goal.invariant-loop-i
invariant-loop-i l = Gains l.fn.touched l.touched (λ r node. (k : ℕ) × (k < l.i) × ((location : ℕ) × (slice_get l.held k ≡ Some location) × ((r ≡ l.row) × IsReached l.system l.ty location node)))
