-- The parts so far, and what is left to write.
use Rattle.std.proofs.Common.{◌+◌, drop}
use Rattle.ref_texts.specs.Writing.{text_parts}
use Rattle.ref_texts.proofs.PartSteps.{Writes}
use Rattle.ref_texts.proofs.writing.text_parts.Given as goal

abbrev pub invariant-loop-i : goal.invariant-loop-i
invariant-loop-i l = Writes l.types l.memory l.place (l.k + l.i) (drop l.i l.text) l.parts.items (text_parts l.types l.memory l.place l.k l.text)
