use Rattle.std.proofs.Common.{◌≡◌, map, take}
use Rattle.carried_trees.specs.carried_types.Members.{moved_member}
use Rattle.carried_trees.proofs.carried_types.completing.moved_members.Given as goal

abbrev pub invariant-loop-member : goal.invariant-loop-member
invariant-loop-member l = l.list.items ≡ map (moved_member l.ids) (take l.member-index l.members)
