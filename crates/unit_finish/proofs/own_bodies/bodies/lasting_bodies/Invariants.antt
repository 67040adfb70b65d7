use Rattle.std.proofs.Common.{◌≡◌, ◌++◌, drop}
use Rattle.unit_finish.specs.own_bodies.Own.{lasting_bodies}
use Rattle.unit_finish.proofs.own_bodies.bodies.lasting_bodies.Given as goal

abbrev pub invariant-loop-item : goal.invariant-loop-item
invariant-loop-item l = l.bodies.items ++ lasting_bodies (drop l.item-index l.list) ≡ lasting_bodies l.list
