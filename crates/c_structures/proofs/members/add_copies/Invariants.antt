use Rattle.std.proofs.Common.{◌≡◌, ◌++◌, take}
use Rattle.c_structures.proofs.members.add_copies.Given as goal

abbrev pub invariant-loop-member : goal.invariant-loop-member
invariant-loop-member l = l.list.items ≡ l.initial.list.items ++ take l.member-index l.members
