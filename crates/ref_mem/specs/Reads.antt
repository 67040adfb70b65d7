-- What a read gives.
use Rattle.std.specs.Prelude.{ℤ, Bool, cond, List, [], ◌∷◌, Option, Some, None, Result, Ok, Err, slice_get}
use Rattle.std.specs.Option.{option_map}
use Rattle.c_types.specs.declared.term.PathStep.{PathStep}
use Rattle.c_types.specs.Trees.{Ctype, StructureOf, UnionOf}
use Rattle.c_types.specs.Table.{Table}
use Rattle.c_types.specs.Paths.{part_below}
use Rattle.type_rules.specs.Kinds.{character}
use Rattle.ref_cells.specs.declared.cells.Reason.{Reason}
use Rattle.ref_cells.specs.declared.cells.Reason.TheVariants.{Unset as UnsetUse, Mismatch}
use Rattle.ref_cells.specs.declared.cells.Cell.{Cell}
use Rattle.ref_cells.specs.declared.cells.Cell.TheVariants.{Unset, Number, Pointer}
use Rattle.ref_cells.specs.declared.cells.Value.{Value}
use Rattle.ref_cells.specs.declared.instance.Instance.{Instance}
use Rattle.ref_cells.specs.Cells.{CellList, under}
use Rattle.ref_cells.specs.Numbers.{converted}
use Rattle.ref_cells.specs.Wholes.{whole_of}
use Rattle.ref_cells.specs.Places.{reach}
use Rattle.ref_cells.specs.Values.{cell_in, filled, goes_on}

-- the cells listed under a path, or none where it goes through a member that isn't active
abbrev pub opened : Table → Option Ctype → List PathStep → CellList → Option CellList
opened table t [] cells = Some cells
opened table t (step ∷ rest) cells =
    cond (goes_on t step cells) (opened table (part_below table t step) rest (under step cells)) None

-- all cells of a part of a type at a path of an instance, or none where the path goes through a member that isn't
-- active
abbrev pub content : Table → Instance → List PathStep → Ctype → Option CellList
content table inst path t =
    option_map (filled table inst.zero t) (opened table (whole_of table inst) path inst.cells)

-- a cell as one of a scalar type
abbrev pub converted_cell : Ctype → Cell → Cell
converted_cell t (Number n) = Number (converted t n)
converted_cell t cell = cell

abbrev pub one_cell : Cell → Value
one_cell cell = record { cells = ([], cell) ∷ [] }

abbrev pub scalar_value : Ctype → Cell → Result Value Reason
scalar_value t Unset = Err UnsetUse
scalar_value t cell = Ok (one_cell (converted_cell t cell))

-- the value of a type that is found, as a value of a type like it, of which these cells are listed
abbrev pub value_of : Table → Bool → Ctype → Ctype → CellList → Result Value Reason
value_of table marked (StructureOf tag) t cells =
    Ok (record { cells = filled table marked (StructureOf tag) cells })
value_of table marked (UnionOf tag) t cells = Ok (record { cells = filled table marked (UnionOf tag) cells })
value_of table marked found t cells = scalar_value t (cell_in marked found cells)

abbrev pub opened_value : Table → Bool → Ctype → Ctype → Option CellList → Result Value Reason
opened_value table marked found t None = Err Mismatch
opened_value table marked found t (Some cells) = value_of table marked found t cells

-- what is read at a path of an instance, where that type is found
abbrev pub read_in : Table → Option Instance → List PathStep → Ctype → Ctype → Result Value Reason
read_in table None path found t = Err Mismatch
read_in table (Some inst) path found t =
    opened_value table inst.zero found t (opened table (whole_of table inst) path inst.cells)

abbrev pub read_found : Table → List Instance → Cell → Ctype → Result Ctype Reason → Result Value Reason
read_found table memory place t (Err reason) = Err reason
read_found table memory (Pointer instance path past) t (Ok found) =
    read_in table (slice_get memory instance) path found t
read_found table memory place t (Ok found) = Err Mismatch

-- the value of a type at a place
unfoldable pub read : Table → List Instance → Cell → Ctype → Result Value Reason
read table memory place t = read_found table memory place t (reach table memory place t)

abbrev pub number_in : Cell → Result ℤ Reason
number_in (Number n) = Ok n
number_in cell = Err Mismatch

abbrev pub number_of_cells : CellList → Result ℤ Reason
number_of_cells [] = Err Mismatch
number_of_cells (e ∷ rest) = number_in e.1

abbrev pub number_read : Result Value Reason → Result ℤ Reason
number_read (Err reason) = Err reason
number_read (Ok value) = number_of_cells value.cells

-- the character at a place
unfoldable pub read_character : Table → List Instance → Cell → Result ℤ Reason
read_character table memory place = number_read (read table memory place character)
