use Rattle.std.proofs.Common.{◌≡◌, ◌++◌, ◌+◌, length, drop}
use Rattle.std.specs.VecDeque.{deque_len}
use Rattle.unit_finish.specs.planted_nodes.Copied.{with_places}
use Rattle.unit_finish.proofs.planted_nodes.copying.with_places.Given as goal

-- what has its place so far, and what is left
abbrev pub invariant-loop-item : goal.invariant-loop-item
invariant-loop-item l = record {
  long : length l.moved.items + length l.rest.items ≡ length l.fn.list.items;
  moved : l.moved.items ++ with_places l.total l.rest.items (drop (length l.moved.items) l.places) ≡ with_places l.total l.fn.list.items l.places;
}

abbrev pub decreases-loop-item : goal.decreases-loop-item
decreases-loop-item l = deque_len l.rest
