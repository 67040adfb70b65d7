use Rattle.std.proofs.Common.{◌≡◌, ◌+◌, map, take}
use Rattle.link_merge.proofs.kids.member_kids.Given as goal

abbrev pub invariant-loop-member : goal.invariant-loop-member
invariant-loop-member l = l.list.items ≡ map (λ m. l.types + m.ty.0) (take l.member-index l.members)
