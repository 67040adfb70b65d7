use Rattle.std.proofs.Common.{slice_index}
use Rattle.std.specs.VecDeque.{deque_len}
use Rattle.link_units.proofs.Adding.{AreSoFar}
use Rattle.link_units.proofs.nodes.add_nodes.Given as goal

abbrev pub invariant-loop-node : goal.invariant-loop-node
invariant-loop-node l = AreSoFar l.types l.start (λ e. slice_index l.entities e) l.fn.nodes.items l.initial.list.items l.list.items l.rest.items

abbrev pub decreases-loop-node : goal.decreases-loop-node
decreases-loop-node l = deque_len l.rest
