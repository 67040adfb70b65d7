-- The pointers so far.
use Rattle.std.proofs.Common.{◌≡◌, take}
use Rattle.ref_elements.specs.Outcomes.{pointers_in}
use Rattle.ref_elements.proofs.outcome.pointers_in.Given as goal

abbrev pub invariant-loop-entry : goal.invariant-loop-entry
invariant-loop-entry l = l.list.items ≡ pointers_in l.instance (take l.entry-index l.cells)
