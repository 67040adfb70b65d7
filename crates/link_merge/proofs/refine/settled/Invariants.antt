use Rattle.std.proofs.Common.{◌≡◌, length}
use Rattle.link_merge.specs.Classes.{AreClasses}
use Rattle.link_merge.proofs.Settling.{gaps}
use Rattle.link_merge.proofs.refine.settled.Given as goal

abbrev pub invariant-loop-leaders : goal.invariant-loop-leaders
invariant-loop-leaders l = record {
  classes : AreClasses l.units l.tag_starts l.leaders.items;
  many : length l.leaders.items ≡ length l.tags;
}

abbrev pub decreases-loop-leaders : goal.decreases-loop-leaders
decreases-loop-leaders l = gaps (length l.leaders.items) l.leaders.items
