use Rattle.std.proofs.Common.{◌≡◌, ◌<◌, ◌≤◌, ℕ, true}
use Rattle.c_types.specs.Table.{type_of, extent_in}
use Rattle.unit_worlds.specs.unit_limits.Small as spec
use Rattle.unit_worlds.proofs.unit_limits.small.new_types_are_small.Given as goal

-- those so far are
abbrev pub invariant-loop-id : goal.invariant-loop-id
invariant-loop-id l = (k : ℕ) → l.from ≤ k → k < l.id → spec.stays_small (extent_in l.unit.types) (type_of l.unit.types k) ≡ true
