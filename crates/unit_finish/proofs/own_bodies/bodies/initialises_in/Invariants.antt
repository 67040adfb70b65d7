use Rattle.std.proofs.Common.{◌≡◌, ◌++◌, drop}
use Rattle.unit_finish.specs.own_bodies.Own.{initialises_from}
use Rattle.unit_finish.proofs.own_bodies.bodies.initialises_in.Given as goal

abbrev pub invariant-loop-i : goal.invariant-loop-i
invariant-loop-i l = l.pairs.items ++ initialises_from l.i (drop l.i l.marks) (drop l.i l.nodes) ≡ initialises_from 0 l.marks l.nodes
