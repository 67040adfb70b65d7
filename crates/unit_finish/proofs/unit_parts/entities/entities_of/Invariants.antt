use Rattle.std.proofs.Common.{◌≡◌, ◌++◌, ◌+◌, length}
use Rattle.std.specs.VecDeque.{deque_len}
use Rattle.tree_reads.specs.leaf_maps.Numbers.{number_at}
use Rattle.unit_finish.specs.unit_parts.Entities.{entities_from}
use Rattle.unit_finish.proofs.unit_parts.entities.entities_of.Given as goal

-- the entities so far, and those of what is left
abbrev pub invariant-loop-item : goal.invariant-loop-item
invariant-loop-item l = record {
  long : length l.entities.items + length l.rest.items ≡ length l.fn.list.items;
  entities : l.entities.items ++ entities_from l.unit (number_at l.numbers) l.nodes (length l.entities.items) l.rest.items ≡ entities_from l.unit (number_at l.numbers) l.nodes 0 l.fn.list.items;
}

abbrev pub decreases-loop-item : goal.decreases-loop-item
decreases-loop-item l = deque_len l.rest
