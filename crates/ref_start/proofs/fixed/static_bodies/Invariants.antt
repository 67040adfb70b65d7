use Rattle.std.proofs.Common.{◌≡◌, ◌++◌, drop}
use Rattle.ref_start.specs.Fixed.{static_bodies}
use Rattle.ref_start.proofs.fixed.static_bodies.Given as goal

abbrev pub invariant-loop-entity : goal.invariant-loop-entity
invariant-loop-entity l = l.list.items ++ static_bodies (drop l.entity-index l.entities) ≡ static_bodies l.entities
