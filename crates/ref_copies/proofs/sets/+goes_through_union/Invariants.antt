use Rattle.std.proofs.Common.{length}
use Rattle.ref_copies.proofs.sets.+goes_through_union.Given as goal

abbrev pub decreases-goes_through_union : goal.decreases-goes_through_union
decreases-goes_through_union l = length l.path.now
