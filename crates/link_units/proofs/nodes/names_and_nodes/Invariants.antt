use Rattle.std.specs.VecDeque.{deque_len}
use Rattle.link_units.proofs.Noding.{AreUnitsSoFar}
use Rattle.link_units.proofs.nodes.names_and_nodes.Given as goal

abbrev pub invariant-loop-unit : goal.invariant-loop-unit
invariant-loop-unit l = AreUnitsSoFar l.fn.units.items l.rest.items l.names.items l.type_starts l.node_starts l.numbers l.u l.list.items

abbrev pub decreases-loop-unit : goal.decreases-loop-unit
decreases-loop-unit l = deque_len l.rest
