use Rattle.std.proofs.Common.{◌≡◌, ℕ, map, List}
use Rattle.std.specs.List.{slice_get, range_with_len}
use Rattle.c_types.specs.Trees.{Ctype}
use Rattle.c_types.specs.Table.{type_of}
use Rattle.row_numbers.specs.Kept.{nodes_of, kept_row, kept_at, row_or}
use Rattle.row_numbers.proofs.kept.row_list.Given as goal

-- the rows of the first nodes, and the next row
pub record Rows (none first : ℕ) (nodes : List Ctype) (i next : ℕ) (list : List ℕ) : Type 0 where
  pub row : next ≡ kept_row first nodes i
  pub rows : list ≡ map (λ i. row_or none (kept_row first nodes i) (kept_at (slice_get nodes i))) (range_with_len 0 i)

abbrev pub invariant-loop-node : goal.invariant-loop-node
invariant-loop-node l = Rows l.none l.first (nodes_of l.types (type_of l.types l.id.0)) l.node l.next l.list
