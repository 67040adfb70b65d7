use Rattle.std.proofs.Common.{◌≡◌, map, take}
use Rattle.link_merge.specs.Complete.{moved_member}
use Rattle.link_merge.proofs.complete.moved_members.Given as goal

abbrev pub invariant-loop-member : goal.invariant-loop-member
invariant-loop-member l = l.list.items ≡ map (moved_member l.start) (take l.member-index l.members)
