use Rattle.std.proofs.Common.{◌≡◌, ◌+◌, map}
use Rattle.std.specs.List.{slice_get, range_with_len}
use Rattle.c_types.specs.Table.{type_of}
use Rattle.row_numbers.specs.Kept.{nodes_of, kept_at, row_or}
use Rattle.constraints.proofs.functions.cell_list.Given as goal

abbrev pub invariant-loop-node : goal.invariant-loop-node
invariant-loop-node l = l.list ≡ map (λ i. row_or l.none (l.first + i) (kept_at (slice_get (nodes_of l.types (type_of l.types l.id.0)) i))) (range_with_len 0 l.node)
