use Rattle.std.proofs.Common.{◌≡◌, ◌<◌, ℕ, Bool, length}
use Rattle.c_senses.specs.Initialised.{is_fixed_pointer}
use Rattle.core_nodes.specs.Standing.{core_at}
use Rattle.c_initials.specs.Fixed.{is_fixed_as}
use Rattle.c_initials.proofs.fixed.base_of.Given as goal

-- the node here, as a pointer or as a place, is fixed exactly where the first one is
abbrev pub invariant-down : goal.invariant-down
invariant-down l = record {
  within : l.here < length l.unit.nodes.items;
  firm : (automatic : ℕ → Bool) → is_fixed_as automatic l.unit l.pointer l.here ≡ is_fixed_pointer automatic (core_at l.unit l.node);
}

abbrev pub decreases-down : goal.decreases-down
decreases-down l = l.here
