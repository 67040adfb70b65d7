-- It is among those that are left.
use Rattle.std.proofs.Common.{◌≡◌, drop}
use Rattle.ref_places.specs.Places.{first_instance}
use Rattle.ref_places.proofs.places.first_instance.Given as goal

abbrev pub invariant-loop-inst : goal.invariant-loop-inst
invariant-loop-inst l = record {
  left : first_instance l.key l.at (drop l.inst-index l.memory) ≡ first_instance l.key 0 l.memory;
  place : l.at ≡ l.inst-index;
}
