-- What is left to compare.
use Rattle.std.proofs.Common.{Ok, pos}
use Rattle.ref_texts.specs.Reading.{decided_at, compared_part}
use Rattle.ref_texts.proofs.TextSteps.{Compares}
use Rattle.ref_texts.proofs.reading.compared_part.Given as goal

abbrev pub invariant-loop-k : goal.invariant-loop-k
invariant-loop-k l = Compares (decided_at l.types l.memory l.left l.right) (Ok (pos 0)) l.k l.n (compared_part l.types l.memory l.left l.right l.n)
