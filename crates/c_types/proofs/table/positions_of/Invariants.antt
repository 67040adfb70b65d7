use Rattle.std.proofs.Common.{◌≡◌, ◌+◌, take, length}
use Rattle.c_types.specs.Bounds.{cap}
use Rattle.c_types.specs.Layout.{all_nodes}
use Rattle.c_types.specs.Table.{extents_in}
use Rattle.c_types.specs.Inside.{starts, table_of}
use Rattle.c_types.proofs.table.positions_of.Given as goal

abbrev pub invariant-loop-m : goal.invariant-loop-m
invariant-loop-m l = record {
  list : l.list.items ≡ starts 1 (extents_in (table_of l.entries l.tags l.completed) (take l.m-index l.members));
  next : l.next ≡ cap (1 + length (all_nodes (extents_in (table_of l.entries l.tags l.completed) (take l.m-index l.members))));
}
