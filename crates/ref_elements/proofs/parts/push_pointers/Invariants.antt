-- The pointers so far.
use Rattle.std.proofs.Common.{◌≡◌, ◌++◌, take}
use Rattle.ref_cells.specs.Cells.{joined}
use Rattle.ref_elements.specs.Outcomes.{pointers_in}
use Rattle.ref_elements.proofs.parts.push_pointers.Given as goal

abbrev pub invariant-loop-entry : goal.invariant-loop-entry
invariant-loop-entry l = l.list.items ≡ l.initial.list.items ++ pointers_in l.instance (joined l.front (take l.entry-index l.cells))
