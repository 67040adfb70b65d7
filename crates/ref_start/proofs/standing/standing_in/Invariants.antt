-- The instances from number i on are looked at.
use Rattle.std.proofs.Common.{◌≡◌, ◌≤◌, length, drop}
use Rattle.c_types.specs.declared.key.ObjectKey.{ObjectKey}
use Rattle.obj_space.specs.Found.{kept_for}
use Rattle.ref_places.specs.Places.{first_instance}
use Rattle.ref_start.proofs.standing.standing_in.Given as goal

abbrev pub invariant-loop-i : goal.invariant-loop-i
invariant-loop-i l = record {
  within : l.i ≤ length l.memory;
  kept : (key : ObjectKey) → kept_for l.standing key ≡ first_instance key l.i (drop l.i l.memory);
}

abbrev pub decreases-loop-i : goal.decreases-loop-i
decreases-loop-i l = l.i
