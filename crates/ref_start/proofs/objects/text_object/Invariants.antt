use Rattle.std.proofs.Common.{◌≡◌, take}
use Rattle.ref_start.specs.Objects.{numbers}
use Rattle.ref_start.proofs.objects.text_object.Given as goal

abbrev pub invariant-loop-c : goal.invariant-loop-c
invariant-loop-c l = l.cells.items ≡ numbers (take l.c-index l.text)
