-- What is left to compare.
use Rattle.std.proofs.Common.{◌^◌, Err}
use Rattle.ref_cells.specs.declared.cells.Reason.TheVariants.{OutOfRange}
use Rattle.ref_texts.specs.Reading.{decided_at, compared_at}
use Rattle.ref_texts.proofs.TextSteps.{Compares}
use Rattle.ref_texts.proofs.reading.compared_at.Given as goal

abbrev pub invariant-loop-k : goal.invariant-loop-k
invariant-loop-k l = Compares (decided_at l.types l.memory l.left l.right) (Err OutOfRange) l.k (2 ^ 64) (compared_at l.types l.memory l.left l.right)
