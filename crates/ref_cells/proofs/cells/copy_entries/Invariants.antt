-- The entries so far.
use Rattle.std.proofs.Common.{◌≡◌, take}
use Rattle.ref_cells.proofs.cells.copy_entries.Given as goal

abbrev pub invariant-loop-entry : goal.invariant-loop-entry
invariant-loop-entry l = l.list.items ≡ take l.entry-index l.cells
