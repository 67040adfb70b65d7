use Rattle.std.proofs.Common.{◌≡◌, take}
use Rattle.c_types.specs.Table.{type_of}
use Rattle.row_numbers.specs.Kept.{nodes_of, kept_count}
use Rattle.row_numbers.proofs.kept.kept_count.Given as goal

abbrev pub invariant-loop-node : goal.invariant-loop-node
invariant-loop-node l = l.count ≡ kept_count (take l.node (nodes_of l.types (type_of l.types l.id.0)))
