use Rattle.std.proofs.Common.{◌≡◌, ◌-◌, drop}
use Rattle.tree_reads.specs.Order.{ascends}
use Rattle.tree_reads.proofs.order.is_ascending.Given as goal

-- what is left ascends where the whole does
abbrev pub invariant-loop-i : goal.invariant-loop-i
invariant-loop-i l = ascends (drop (l.i - 1) l.list) ≡ ascends l.list
