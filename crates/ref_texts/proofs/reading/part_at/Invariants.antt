-- The characters so far, and what is left to read.
use Rattle.std.proofs.Common.{[], Ok}
use Rattle.ref_texts.specs.Reading.{next_at, part_at}
use Rattle.ref_texts.proofs.TextSteps.{Reads}
use Rattle.ref_texts.proofs.reading.part_at.Given as goal

abbrev pub invariant-loop-k : goal.invariant-loop-k
invariant-loop-k l = Reads (next_at l.types l.memory l.place) (Ok []) l.k l.n l.text.items (part_at l.types l.memory l.place l.n)
