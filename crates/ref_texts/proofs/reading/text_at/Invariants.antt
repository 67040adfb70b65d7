-- The characters so far, and what is left to read.
use Rattle.std.proofs.Common.{◌^◌, Err}
use Rattle.ref_cells.specs.declared.cells.Reason.TheVariants.{OutOfRange}
use Rattle.ref_texts.specs.Reading.{next_at, text_at}
use Rattle.ref_texts.proofs.TextSteps.{Reads}
use Rattle.ref_texts.proofs.reading.text_at.Given as goal

abbrev pub invariant-loop-k : goal.invariant-loop-k
invariant-loop-k l = Reads (next_at l.types l.memory l.place) (Err OutOfRange) l.k (2 ^ 64) l.text.items (text_at l.types l.memory l.place)
