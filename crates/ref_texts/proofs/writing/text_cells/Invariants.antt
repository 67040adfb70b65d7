-- The cells so far, and those that are left.
use Rattle.ref_texts.specs.Writing.{text_cells}
use Rattle.ref_texts.proofs.PartSteps.{Lists}
use Rattle.ref_texts.proofs.writing.text_cells.Given as goal

abbrev pub invariant-loop-i : goal.invariant-loop-i
invariant-loop-i l = Lists l.i l.text l.list.items (text_cells 0 l.text)
