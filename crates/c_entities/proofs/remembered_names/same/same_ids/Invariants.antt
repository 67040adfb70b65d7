use Rattle.std.proofs.Common.{◌≡◌, take}
use Rattle.c_entities.proofs.remembered_names.same.same_ids.Given as goal

-- those so far are the same
abbrev pub invariant-loop-i : goal.invariant-loop-i
invariant-loop-i l = take l.i l.one ≡ take l.i l.other
