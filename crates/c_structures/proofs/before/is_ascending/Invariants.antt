use Rattle.std.proofs.Common.{◌≡◌, ◌-◌, drop}
use Rattle.c_structures.specs.Before.{ascends}
use Rattle.c_structures.proofs.before.is_ascending.Given as goal

-- what is left ascends where the whole does
abbrev pub invariant-loop-i : goal.invariant-loop-i
invariant-loop-i l = ascends (drop (l.i - 1) l.nodes) ≡ ascends l.nodes
