use Rattle.std.proofs.Common.{◌≡◌, ℕ, ◌<◌, Some, slice_get}
use Rattle.mod_ref.specs.Gains.{Gains}
use Rattle.mod_ref.specs.Places.{IsUnder}
use Rattle.mod_ref.proofs.library_calls.insert_fresh.Given as goal

-- the objects so far that the function gives were added
abbrev pub invariant-loop-i : goal.invariant-loop-i
invariant-loop-i l = Gains l.fn.touched l.touched (λ r node. (k : ℕ) × (k < l.i) × ((pair : ℕ × ℕ) × (slice_get l.call.fresh k ≡ Some pair) × ((r ≡ l.row) × ((pair.0 ≡ l.number) × IsUnder l.system pair.1 node))))
