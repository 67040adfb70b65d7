use Rattle.std.proofs.Common.{◌≡◌, ◌<◌, ℕ, Some, slice_get}
use Rattle.mod_ref.specs.Ways.{AddsWays}
use Rattle.mod_ref.proofs.ways.push_between.Given as goal

-- the pairs so far
abbrev pub invariant-loop-i : goal.invariant-loop-i
invariant-loop-i l = AddsWays l.fn.ways.items l.ways.items (λ a b. (k : ℕ) × (k < l.i) × (slice_get l.made k ≡ Some (a, b)))
