-- It is among those that are left.
use Rattle.std.proofs.Common.{◌≡◌, drop}
use Rattle.ref_places.specs.Places.{own_instance}
use Rattle.ref_places.proofs.places.own_instance.Given as goal

abbrev pub invariant-loop-i : goal.invariant-loop-i
invariant-loop-i l = own_instance l.memory l.key (drop l.i-index l.own) ≡ own_instance l.memory l.key l.own
