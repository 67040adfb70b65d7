-- What a write leaves.
use Rattle.std.specs.Prelude.{ℕ, ℤ, Bool, true, false, List, [], ◌∷◌, Option, Some, None, Result, Ok, Err, map, set}
use Rattle.std.specs.Prelude.{slice_get}
use Rattle.c_types.specs.declared.term.PathStep.{PathStep}
use Rattle.c_types.specs.declared.term.PathStep.TheVariants.{Member}
use Rattle.c_types.specs.declared.term.TypeId.{TypeId}
use Rattle.c_types.specs.Trees.{Ctype, StructureOf, UnionOf}
use Rattle.c_types.specs.Table.{Table, type_of}
use Rattle.c_types.specs.Paths.{part_below}
use Rattle.type_rules.specs.Kinds.{character}
use Rattle.type_rules.specs.Members.{tag_of, member_at, width_of}
use Rattle.ref_cells.specs.declared.cells.Reason.{Reason}
use Rattle.ref_cells.specs.declared.cells.Reason.TheVariants.{Mismatch}
use Rattle.ref_cells.specs.declared.cells.Cell.{Cell}
use Rattle.ref_cells.specs.declared.cells.Cell.TheVariants.{Number, Pointer}
use Rattle.ref_cells.specs.declared.cells.Value.{Value}
use Rattle.ref_cells.specs.declared.instance.Instance.{Instance}
use Rattle.ref_cells.specs.Cells.{CellList}
use Rattle.ref_cells.specs.Numbers.{converted, reduced}
use Rattle.ref_cells.specs.Wholes.{whole_of}
use Rattle.ref_cells.specs.Places.{reach}
use Rattle.ref_cells.specs.Puts.{put}
use Rattle.ref_mem.specs.declared.writes.Initial.{Initial}

-- the width of a step, where it goes to a bit-field
abbrev pub width_at : Table → Option Ctype → PathStep → Option ℕ
width_at table (Some t) (Member k) = width_of (member_at table (tag_of t) k)
width_at table t step = None

-- the width of what stands at the end of a path, where that is a bit-field
abbrev pub width_along : Table → Option Ctype → List PathStep → Option ℕ
width_along table t [] = None
width_along table t (step ∷ []) = width_at table t step
width_along table t (step ∷ next ∷ rest) = width_along table (part_below table t step) (next ∷ rest)

-- a cell as it is kept in a scalar of a type and width
abbrev pub kept_cell : Ctype → Option ℕ → Cell → Cell
kept_cell t width (Number n) = Number (reduced t width (converted t n))
kept_cell t width cell = cell

-- the cells of a value as they are kept at a place of a type and width
abbrev pub kept : Ctype → Option ℕ → CellList → CellList
kept (StructureOf tag) width cells = cells
kept (UnionOf tag) width cells = cells
kept t width cells = map (λ e. (e.0, kept_cell t width e.1)) cells

-- the instance with a value at a path, where that type is found
abbrev pub with_value : Table → Instance → List PathStep → Ctype → CellList → Instance
with_value table inst path found value =
    record inst {
      cells = put table inst.zero (whole_of table inst) path
          (kept found (width_along table (whole_of table inst) path) value) inst.cells;
    }

abbrev pub written_in : Table
    → List Instance
    → ℕ
    → Option Instance
    → List PathStep
    → Ctype
    → CellList
    → Result (List Instance) Reason
written_in table memory i None path found value = Err Mismatch
written_in table memory i (Some inst) path found value = Ok (set memory i (with_value table inst path found value))

abbrev pub write_found : Table
    → List Instance
    → Cell
    → CellList
    → Result Ctype Reason
    → Result (List Instance) Reason
write_found table memory place value (Err reason) = Err reason
write_found table memory (Pointer instance path past) value (Ok found) =
    written_in table memory instance (slice_get memory instance) path found value
write_found table memory place value (Ok found) = Err Mismatch

-- the memory with a value of a type at a place
unfoldable pub write : Table → List Instance → Cell → Ctype → Value → Result (List Instance) Reason
write table memory place t value = write_found table memory place value.cells (reach table memory place t)

-- cells with those of several parts put there, one after another
abbrev pub put_all : Table → Bool → Option Ctype → List (List PathStep × CellList) → CellList → CellList
put_all table marked t [] cells = cells
put_all table marked t (part ∷ rest) cells = put_all table marked t rest (put table marked t part.0 part.1 cells)

-- the instance with several parts put there
abbrev pub with_parts : Table → List (List PathStep × CellList) → Instance → Instance
with_parts table parts inst = record inst { cells = put_all table inst.zero (whole_of table inst) parts inst.cells }

-- what has no type gets that one
abbrev pub type_or : TypeId → Option TypeId → Option TypeId
type_or id None = Some id
type_or id (Some old) = Some old

abbrev pub typed_as : TypeId → Instance → Instance
typed_as id inst = record inst { ty = type_or id inst.ty }

-- the memory with one instance changed
abbrev pub changed : List Instance → ℕ → Option Instance → (Instance → Instance) → List Instance
changed memory i None change = memory
changed memory i (Some inst) change = set memory i (change inst)

-- the cells of a character as they are kept at a path of an instance, under that path
abbrev pub part_in : Table → Option Instance → List PathStep → Ctype → ℤ → Result (List PathStep × CellList) Reason
part_in table None path found c = Err Mismatch
part_in table (Some inst) path found c =
    Ok (path, kept found (width_along table (whole_of table inst) path) (([], Number c) ∷ []))

abbrev pub part_found : Table
    → List Instance
    → Cell
    → ℤ
    → Result Ctype Reason
    → Result (List PathStep × CellList) Reason
part_found table memory place c (Err reason) = Err reason
part_found table memory (Pointer instance path past) c (Ok found) =
    part_in table (slice_get memory instance) path found c
part_found table memory place c (Ok found) = Err Mismatch

-- a character as a part of the instance of a place, checked as a write of it there
unfoldable pub character_part : Table → List Instance → Cell → ℤ → Result (List PathStep × CellList) Reason
character_part table memory place c = part_found table memory place c (reach table memory place character)

-- the parts of an initialiser as they are kept in a whole
abbrev pub kept_parts : Table → Option Ctype → List Initial → List (List PathStep × CellList)
kept_parts table whole parts =
    map (λ part. (part.path, kept (type_of table part.ty.0) (width_along table whole part.path) part.cells)) parts

-- an object of which each cell is zero or null
abbrev pub cleared : Bool → Instance → Instance
cleared true inst = record inst { zero = true; cells = [] }
cleared false inst = inst

-- an object with an initialiser's parts, one after another
abbrev pub initialised : Table → Bool → List Initial → Instance → Instance
initialised table clears parts inst =
    with_parts table (kept_parts table (whole_of table inst) parts) (cleared clears inst)
