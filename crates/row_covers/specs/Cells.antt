-- Cells that are in the sets of their rows, as the code decides it.
use Rattle.std.specs.Prelude.{◌≡◌, ◌⊎◌, ℕ, ◌+◌, ◌<◌, ◌≤◌, ◌^◌, ⊤, List, [], Option, Some, None, All, length, slice_get}
use Rattle.c_types.specs.declared.term.PathStep.{PathStep}
use Rattle.c_types.specs.Table.{Table, type_of}
use Rattle.sol_model.specs.Families.{Family, Has}
use Rattle.obj_space.specs.Spots.{Reached, part_at}
use Rattle.row_numbers.specs.Kept.{nodes_of, kept_row}
use Rattle.ref_cells.specs.declared.cells.Cell.{Cell}
use Rattle.ref_cells.specs.declared.cells.Cell.TheVariants.{Pointer, Function}
use Rattle.ref_cells.specs.declared.instance.Instance.{Instance}
use Rattle.ref_cells.specs.Cells.{Entry, CellList}
use Rattle.ref_cells.specs.Wholes.{whole_of}
use Rattle.covering_laws.specs.covered_memory.Spots.{spot, room, IsInTree}
use Rattle.covering_laws.specs.covered_memory.Covered.{Sets, pointer_row}
use Rattle.row_covers.specs.declared.cells.NodeRows.{NodeRows}
use Rattle.row_covers.specs.declared.cells.NodeRows.TheVariants.{Object, Blob, Value}

-- the set of a row has a location, where there are both
abbrev pub Falls : Family → Option ℕ → Option ℕ → Type 0
Falls F (Some row) (Some location) = Has F row location
Falls F row found = ⊥

-- a path of an instance, whose location is in the set of a row
abbrev pub PointsBy : Sets → Option ℕ → List PathStep → Option Instance → Type 0
PointsBy g row path None = ⊥
PointsBy g row path (Some inst) =
    IsInTree g.table (whole_of g.table inst) (room inst) path × Falls g.family row (spot g.table g.space inst.key path)

-- what a cell points to is in the set of a row
abbrev pub CellBy : Sets → List Instance → Option ℕ → Cell → Type 0
CellBy g memory row (Pointer i path past) = PointsBy g row path (slice_get memory i)
CellBy g memory row (Function key) = Falls g.family row (spot g.table g.space key [])
CellBy g memory row cell = ⊤

-- the type of a value is the table's, and its rows are no huge numbers
abbrev pub IsRowed : Table → NodeRows → Type 0
IsRowed table (Value first ty) = (first + 2 ^ 32 ≤ 2 ^ 64) × (ty.0 < length table.terms)
IsRowed table rows = Unit {0}

abbrev pub row_by : Table → NodeRows → ℕ → ℕ
row_by table (Object first) node = first + node
row_by table (Blob first) node = first
row_by table (Value first ty) node = kept_row first (nodes_of table (type_of table ty.0)) node

-- one row, or two that no system has
abbrev pub IsPast : Option ℕ → Type 0
IsPast None = ⊤
IsPast (Some row) = 4294967295 ≤ row

abbrev pub SameRow : Option ℕ → Option ℕ → Type 0
SameRow a b = (a ≡ b) ⊎ (IsPast a × IsPast b)

-- what a cell at a path points to is in the set of its node's row
unfoldable pub EntryBy : Sets → List Instance → (ℕ → ℕ) → Option Reached → Entry → Type 0
EntryBy g memory row whole entry = CellBy g memory (pointer_row row (part_at g.table whole entry.0)) entry.1

-- so is what each cell points to
abbrev pub AreIn : Sets → List Instance → (ℕ → ℕ) → Option Reached → CellList → Type 0
AreIn g memory row whole cells = All (λ entry. EntryBy g memory row whole entry) cells
