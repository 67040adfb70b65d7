use Rattle.std.proofs.Common.{length}
use Rattle.call_sites.proofs.calls.+object_by.Given as goal

abbrev pub decreases-object_by : goal.decreases-object_by
decreases-object_by l = length l.effects.now
