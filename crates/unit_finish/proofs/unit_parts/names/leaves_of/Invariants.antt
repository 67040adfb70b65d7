use Rattle.std.proofs.Common.{◌≡◌, ◌++◌, drop}
use Rattle.unit_finish.specs.unit_parts.Entities.{leaves_from}
use Rattle.unit_finish.proofs.unit_parts.names.leaves_of.Given as goal

abbrev pub invariant-loop-i : goal.invariant-loop-i
invariant-loop-i l = l.pairs.items ++ leaves_from l.i (drop l.i l.list) ≡ leaves_from 0 l.list
