use Rattle.std.proofs.Common.{◌≡◌, ◌++◌, take}
use Rattle.link_merge.specs.Codes.{members_code}
use Rattle.link_merge.proofs.keys.add_members.Given as goal

abbrev pub invariant-loop-member : goal.invariant-loop-member
invariant-loop-member l = l.list.items ≡ l.initial.list.items ++ members_code l.firsts l.start (take l.member-index l.members)
