use Rattle.std.proofs.Common.{◌≡◌, ℕ, ◌<◌, Some, slice_get}
use Rattle.mod_ref.specs.Gains.{Gains}
use Rattle.mod_ref.proofs.inserting.insert_all.Given as goal

-- the locations so far were added
abbrev pub invariant-loop-i : goal.invariant-loop-i
invariant-loop-i l = Gains l.fn.touched l.touched (λ r at. (k : ℕ) × (k < l.i) × ((location : ℕ) × (slice_get l.held k ≡ Some location) × ((r ≡ l.row) × (at ≡ location))))
