-- The rows that copy and set whole elements (C11 7.24.2, 7.24.6.1).
use Rattle.std.specs.Prelude.{ℕ, zero, suc, ◌+◌, ◌%◌, ◌==◌, ◌&&◌, ◌||◌, not, pos, Bool, true, false, if◌then◌else◌}
use Rattle.std.specs.Prelude.{List, [], ◌∷◌, Option, Some, None, Result, Ok, Err, map, slice_get}
use Rattle.std.specs.List.{list_all}
use Rattle.c_types.specs.declared.term.PathStep.{PathStep}
use Rattle.c_types.specs.declared.term.TypeId.{TypeId}
use Rattle.c_types.specs.Trees.{Ctype, IntegerType, UnionOf}
use Rattle.c_types.specs.Table.{Table, type_of}
use Rattle.c_types.specs.Paths.{part_below, type_at_path}
use Rattle.ref_cells.specs.declared.cells.Reason.{Reason}
use Rattle.ref_cells.specs.declared.cells.Reason.TheVariants.{NullUse, Mismatch}
use Rattle.ref_cells.specs.declared.cells.Cell.{Cell}
use Rattle.ref_cells.specs.declared.cells.Cell.TheVariants.{Unset, Number, Null, Pointer}
use Rattle.ref_cells.specs.declared.instance.Instance.{Instance}
use Rattle.ref_cells.specs.Cells.{CellList}
use Rattle.ref_cells.specs.Places.{is_alike}
use Rattle.ref_cells.specs.Values.{filled}
use Rattle.ref_mem.specs.Reads.{one_cell}
use Rattle.ref_mem.specs.Writes.{changed, kept_cell, typed_as, width_along}
use Rattle.ref_elements.specs.declared.runs.Run.{Run}
use Rattle.ref_elements.specs.declared.runs.Found.{Found}
use Rattle.ref_elements.specs.Types.{same_type}
use Rattle.ref_elements.specs.Arguments.{count_of}
use Rattle.ref_elements.specs.Outcomes.{Effect, gives}
use Rattle.ref_elements.specs.Objects.{is_start}
use Rattle.ref_elements.specs.Parts.{Parts, puts}
use Rattle.ref_elements.specs.Runs.{◌>>=◌, content_at, found_at, live_at, found_as, element_path, size_in, parts_of}
use Rattle.ref_elements.specs.Runs.{within}

abbrev pub push_part : List PathStep → Option CellList → Result Parts Reason → Result Parts Reason
push_part path None rest = Err Mismatch
push_part path (Some cells) (Err reason) = Err reason
push_part path (Some cells) (Ok parts) = Ok ((path, cells) ∷ parts)

-- so many elements of one place, from the k-th on, each under the path of the same one of another place
abbrev pub copied : Table → List Instance → Found → Run → ℕ → ℕ → Result Parts Reason
copied table memory source target k zero = Ok []
copied table memory source target k (suc n) =
    push_part (element_path target k) (content_at table memory source k)
    (copied table memory source target (k + 1) n)

-- the instance of a target lives
abbrev pub target_at : List Instance → Cell → Result Instance Reason
target_at memory Null = Err NullUse
target_at memory (Pointer i path past) = live_at (slice_get memory i)
target_at memory cell = Err Mismatch

abbrev pub target_run : Table → Cell → Instance → Result Found Reason
target_run table (Pointer i path past) inst = found_as table i inst path past inst.ty
target_run table cell inst = Err Mismatch

-- the elements at a target, which gets a type where it has none
abbrev pub target_for : Table → List Instance → Cell → TypeId → Result Found Reason
target_for table memory place id = target_at memory place >>= λ inst. target_run table place (typed_as id inst)

abbrev pub alike : Table → TypeId → Found → Result Found Reason
alike table id found =
    if same_type (type_of table found.run.of.0) (type_of table id.0) then Ok found else Err Mismatch

abbrev pub copy_to : Table → List Instance → Cell → ℕ → Found → Found → Effect
copy_to table memory a1 bytes source target =
    parts_of bytes (size_in table source.run.of) >>= λ n. within n source.run.room >>= λ n. within n target.run.room
    >>= λ n. copied table memory source target.run 0 n
    >>= λ parts. puts table memory target.number source.run.of parts a1

abbrev pub copy_from : Table → List Instance → Cell → ℕ → Found → Effect
copy_from table memory a1 bytes source =
    target_for table memory a1 source.run.of >>= alike table source.run.of >>= copy_to table memory a1 bytes source

-- memcpy, memmove: the checks of a2, of a1, of types, of the number and of ranges; all is read before any is
-- written
abbrev pub copy_row : Table → List Instance → Cell → Cell → Cell → Effect
copy_row table memory a1 a2 a3 =
    if count_of a3 == 0 then gives memory (one_cell a1)
    else (found_at table memory a2 >>= copy_from table memory a1 (count_of a3))

abbrev pub is_union : Option Ctype → Bool
is_union (Some (UnionOf tag)) = true
is_union t = false

abbrev pub goes_through_union : Table → Option Ctype → List PathStep → Bool
goes_through_union table t [] = false
goes_through_union table t (step ∷ rest) = is_union t || goes_through_union table (part_below table t step) rest

abbrev pub is_byte : Option Ctype → Bool
is_byte None = false
is_byte (Some t) = is_alike t (IntegerType 1 1 true)

abbrev pub is_free_byte : Table → Ctype → List PathStep → Bool
is_free_byte table t path =
    is_byte (type_at_path table (Some t) path) && not (goes_through_union table (Some t) path)

-- each cell of a type is of size 1, and lies in no union
abbrev pub is_all_bytes : Table → Ctype → Bool
is_all_bytes table t = list_all (λ e. is_free_byte table t e.0) (filled table false t [])

-- a byte as it is kept in a scalar of a type, and of a width where it is a bit-field
abbrev pub byte_in : Option Ctype → Option ℕ → ℕ → Cell
byte_in None width byte = Unset
byte_in (Some t) width byte = kept_cell t width (Number (pos byte))

-- a byte as it is kept at a path of a type
abbrev pub byte_at : Table → Ctype → ℕ → List PathStep → Cell
byte_at table t byte path = byte_in (type_at_path table (Some t) path) (width_along table (Some t) path) byte

-- the cells of an element of which each byte is that one
abbrev pub set_cells : Table → Ctype → ℕ → CellList
set_cells table t byte =
    if byte == 0 then filled table true t []
    else map (λ e. (e.0, byte_at table t byte e.0)) (filled table false t [])

-- the same cells in so many elements, from the k-th on
abbrev pub set_parts : Run → CellList → ℕ → ℕ → Parts
set_parts run cells k zero = []
set_parts run cells k (suc n) = (element_path run k, cells) ∷ set_parts run cells (k + 1) n

abbrev pub set_run : Table → List Instance → Cell → ℕ → ℕ → Found → Effect
set_run table memory a1 byte bytes found =
    if byte == 0 || is_all_bytes table (type_of table found.run.of.0)
    then (parts_of bytes (size_in table found.run.of) >>= λ n. within n found.run.room
    >>= λ n. puts table memory found.number found.run.of
    (set_parts found.run (set_cells table (type_of table found.run.of.0) byte) 0 n) a1)
    else Err Mismatch

-- an object without a type is set to zero as a whole alone
abbrev pub is_whole : Cell → ℕ → ℕ → ℕ → Bool
is_whole (Pointer i path past) byte bytes size = (byte == 0 && bytes == size) && (is_start path && not past)
is_whole cell byte bytes size = false

abbrev pub aimed_as : Table → Cell → ℕ → ℕ → Instance → Option TypeId → Result (Option Found) Reason
aimed_as table a1 byte bytes inst None = if is_whole a1 byte bytes inst.bytes then Ok None else Err Mismatch
aimed_as table a1 byte bytes inst (Some id) = target_run table a1 inst >>= λ found. Ok (Some found)

-- the elements that are set, or none where a whole object without a type is
abbrev pub set_target : Table → List Instance → Cell → ℕ → ℕ → Result (Option Found) Reason
set_target table memory a1 byte bytes = target_at memory a1 >>= λ inst. aimed_as table a1 byte bytes inst inst.ty

abbrev pub zeroed : List Instance → Cell → ℕ → Option Instance → Effect
zeroed memory a1 i None = Err Mismatch
zeroed memory a1 i (Some inst) =
    gives (changed memory i (Some inst) (λ old. record old { zero = true })) (one_cell a1)

abbrev pub set_whole : List Instance → Cell → Effect
set_whole memory (Pointer i path past) = zeroed memory (Pointer i path past) i (slice_get memory i)
set_whole memory cell = Err Mismatch

abbrev pub set_there : Table → List Instance → Cell → ℕ → ℕ → Option Found → Effect
set_there table memory a1 byte bytes None = set_whole memory a1
set_there table memory a1 byte bytes (Some found) = set_run table memory a1 byte bytes found

abbrev pub set_at : Table → List Instance → Cell → ℕ → ℕ → Effect
set_at table memory a1 byte bytes = set_target table memory a1 byte bytes >>= set_there table memory a1 byte bytes

-- memset: a2 as an unsigned char in each byte of a3 bytes
abbrev pub set_row : Table → List Instance → Cell → Cell → Cell → Effect
set_row table memory a1 a2 a3 =
    if count_of a3 == 0 then gives memory (one_cell a1)
    else set_at table memory a1 (count_of a2 % 256) (count_of a3)
