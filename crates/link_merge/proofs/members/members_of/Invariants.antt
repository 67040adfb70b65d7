use Rattle.link_merge.specs.Parted.{lists_of, MembersUpTo}
use Rattle.link_merge.proofs.members.members_of.Given as goal

abbrev pub invariant-loop-here : goal.invariant-loop-here
invariant-loop-here l = MembersUpTo l.first (lists_of l.lists.items) l.here
