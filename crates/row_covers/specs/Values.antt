-- What nodes have, as the code decides it.
use Rattle.std.specs.Prelude.{ℕ, false, All, List, Option, Some, None}
use Rattle.core_tree.specs.Typed.{CoreTrees, Sort, PlaceNode, ValueNode, type_at}
use Rattle.obj_space.specs.Spots.{reached}
use Rattle.obj_space.specs.View.{SpaceView}
use Rattle.row_numbers.specs.Kept.{nodes_of, kept_row}
use Rattle.row_numbers.specs.Setting.{row}
use Rattle.ref_cells.specs.declared.cells.Value.{Value}
use Rattle.ref_cells.specs.declared.instance.Instance.{Instance}
use Rattle.ref_cells.specs.Cells.{CellList}
use Rattle.covering_laws.specs.covered_memory.Covered.{Sets}
use Rattle.row_covers.specs.Cells.{CellBy, AreIn}

-- the rows of the nodes of a node's value
abbrev pub rows_at : CoreTrees → SpaceView → ℕ → ℕ → ℕ
rows_at u s n node = kept_row (row u s n) (nodes_of u.types (type_at u n)) node

abbrev pub HeldBy : Sets → CoreTrees → SpaceView → List Instance → ℕ → Value → Type 0
HeldBy g u s memory n v = AreIn g memory (rows_at u s n) (Some (reached (type_at u n) 0 false)) v.cells

-- what each cell points to is in the set of one row
abbrev pub RowHas : Sets → List Instance → Option ℕ → CellList → Type 0
RowHas g memory at cells = All (λ entry. CellBy g memory at entry.1) cells

-- a place is in its row, a value in its rows, and what is neither points to nothing
abbrev pub HasBy : Sets → CoreTrees → SpaceView → List Instance → Sort → ℕ → Value → Type 0
HasBy g u s memory PlaceNode n v = RowHas g memory (Some (row u s n)) v.cells
HasBy g u s memory ValueNode n v = HeldBy g u s memory n v
HasBy g u s memory sort n v = RowHas g memory None v.cells
