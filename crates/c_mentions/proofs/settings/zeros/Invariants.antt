use Rattle.std.proofs.Common.{◌≡◌, ◌++◌, replicate}
use Rattle.c_mentions.proofs.settings.zeros.Given as goal

abbrev pub invariant-loop-left : goal.invariant-loop-left
invariant-loop-left l = l.list.items ++ replicate l.left 0 ≡ replicate l.count 0

abbrev pub decreases-loop-left : goal.decreases-loop-left
decreases-loop-left l = l.left
