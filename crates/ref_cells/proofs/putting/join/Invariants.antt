-- The entries so far.
use Rattle.std.proofs.Common.{◌≡◌, take}
use Rattle.ref_cells.specs.Cells.{joined}
use Rattle.ref_cells.proofs.putting.join.Given as goal

abbrev pub invariant-loop-entry : goal.invariant-loop-entry
invariant-loop-entry l = l.list.items ≡ joined l.front (take l.entry-index l.cells)
