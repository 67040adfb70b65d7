-- What is kept is right for what was read so far.
use Rattle.std.proofs.Common.{length, ◌-◌}
use Rattle.ref_start.specs.Handed.{AreRead}
use Rattle.ref_start.proofs.handed.read_on.Given as goal

abbrev pub invariant-loop-kept : goal.invariant-loop-kept
invariant-loop-kept l = AreRead l.types l.handed l.kept

abbrev pub decreases-loop-kept : goal.decreases-loop-kept
decreases-loop-kept l = length l.handed - l.kept.read
