use Rattle.std.proofs.Common.{◌≡◌, ◌++◌, take}
use Rattle.c_check.proofs.expression.append.Given as goal

abbrev pub invariant-loop-pair : goal.invariant-loop-pair
invariant-loop-pair l = l.list.items ≡ l.initial.list.items ++ take l.pair-index l.pairs
