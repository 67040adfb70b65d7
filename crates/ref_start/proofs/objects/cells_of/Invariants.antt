use Rattle.std.proofs.Common.{◌≡◌, ◌++◌, drop}
use Rattle.ref_start.specs.Objects.{cells_from}
use Rattle.ref_start.proofs.objects.cells_of.Given as goal

abbrev pub invariant-loop-i : goal.invariant-loop-i
invariant-loop-i l = l.list.items ++ cells_from l.i (drop l.i l.cells) ≡ cells_from 0 l.cells
