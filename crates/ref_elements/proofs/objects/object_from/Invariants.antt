-- What is left to look through.
use Rattle.std.proofs.Common.{◌≡◌, drop}
use Rattle.ref_elements.specs.Objects.{object_from}
use Rattle.ref_elements.proofs.objects.object_from.Given as goal

abbrev pub invariant-loop-i : goal.invariant-loop-i
invariant-loop-i l = object_from l.position l.i (drop l.i l.instances) ≡ object_from l.position 0 l.instances
