use Rattle.std.proofs.Common.{◌≡◌, ◌++◌, drop}
use Rattle.unit_finish.specs.unit_parts.Entities.{bodies_of}
use Rattle.unit_finish.proofs.unit_parts.names.bodies_of.Given as goal

abbrev pub invariant-loop-item : goal.invariant-loop-item
invariant-loop-item l = l.bodies.items ++ bodies_of (drop l.item-index l.list) ≡ bodies_of l.list
