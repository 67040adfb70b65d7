-- The rows that make objects, end them, or name one of the library's.
use Rattle.std.specs.Prelude.{set, map, pos, ℕ, ◌*◌, ◌%◌, ◌^◌, ◌&&◌, min, not, Bool, true, false, if◌then◌else◌}
use Rattle.std.specs.Prelude.{List, [], Option, Some, None, Err, length, slice_get}
use Rattle.c_types.specs.declared.key.ObjectKey.{ObjectKey}
use Rattle.c_types.specs.declared.term.TypeId.{TypeId}
use Rattle.c_types.specs.Table.{Table, type_of, extent_in, size_below}
use Rattle.ref_cells.specs.declared.cells.Reason.TheVariants.{BadCall, Mismatch}
use Rattle.ref_cells.specs.declared.cells.Cell.{Cell}
use Rattle.ref_cells.specs.declared.cells.Cell.TheVariants.{Number, Null, Pointer}
use Rattle.ref_cells.specs.declared.instance.Instance.{Instance}
use Rattle.ref_cells.specs.Cells.{CellList}
use Rattle.ref_mem.specs.Reads.{one_cell}
use Rattle.ref_cells.specs.Wholes.{is_heap, elements_in}
use Rattle.ref_cells.specs.Values.{elements, filled, listed}
use Rattle.ref_mem.specs.Writes.{changed}
use Rattle.ref_elements.specs.Arguments.{count_of}
use Rattle.ref_elements.specs.Outcomes.{Effect, gives, stores_and_gives, pointers_in, no_value, null_value}
use Rattle.ref_elements.specs.Outcomes.{start_value}
use Rattle.ref_elements.specs.Types.{same_type}
use Rattle.ref_elements.specs.Objects.{is_odd, with_new, is_start, object_from, place_of_object, element_of_object}

-- a new object without a type, and a pointer to its first element
abbrev pub allocated : List Instance → ObjectKey → ℕ → Bool → Effect
allocated memory key bytes zero = gives (with_new memory key None bytes zero []) (start_value (length memory))

-- malloc: a1 bytes, unset
abbrev pub malloc_row : List Instance → ObjectKey → ℕ → Cell → Effect
malloc_row memory key word a1 =
    if is_odd word then gives memory null_value else allocated memory key (count_of a1) false

-- calloc: a1 times a2 bytes, zero
abbrev pub calloc_row : List Instance → ObjectKey → ℕ → Cell → Cell → Effect
calloc_row memory key word a1 a2 =
    if is_odd word then gives memory null_value
    else allocated memory key ((count_of a1 * count_of a2) % 2 ^ 64) true

abbrev pub is_live_heap : Option Instance → Bool
is_live_heap None = false
is_live_heap (Some inst) = inst.live && is_heap inst.key

-- the allocated instance that lives at whose start a pointer is
abbrev pub heap_at : List Instance → Cell → Option ℕ
heap_at memory (Pointer instance path past) =
    if (is_start path && not past) && is_live_heap (slice_get memory instance) then Some instance else None
heap_at memory cell = None

-- the memory in which an instance has ended
abbrev pub ended : List Instance → ℕ → List Instance
ended memory i = changed memory i (slice_get memory i) (λ inst. record inst { live = false })

abbrev pub freed : List Instance → Option ℕ → Effect
freed memory None = Err BadCall
freed memory (Some i) = gives (ended memory i) no_value

-- free: null does nothing, else ends the instance
abbrev pub free_row : List Instance → Cell → Effect
free_row memory Null = gives memory no_value
free_row memory cell = freed memory (heap_at memory cell)

-- what is kept of an object's elements where it gets so many bytes: all of those that fit, unset cells too
abbrev pub kept_elements : Table → Instance → ℕ → Option TypeId → CellList
kept_elements table old bytes None = []
kept_elements table old bytes (Some id) =
    let size = size_below (extent_in table (type_of table id.0)) in
    elements (filled table old.zero (type_of table id.0))
    (min (elements_in old.bytes size) (elements_in bytes size)) old.cells

-- an object of a fixed type takes elements of that type alone
abbrev pub takes : Table → Option TypeId → Option TypeId → Bool
takes table None old = true
takes table (Some id) None = false
takes table (Some id) (Some old) = same_type (type_of table id.0) (type_of table old.0)

abbrev pub regrown_in : List Instance → ObjectKey → ℕ → ℕ → Instance → CellList → Effect
regrown_in memory key i bytes old cells =
    stores_and_gives (ended (with_new memory key old.ty bytes false cells) i) (start_value (length memory))
    (pointers_in (length memory) cells)

abbrev pub regrown : Table → List Instance → ObjectKey → Option TypeId → ℕ → ℕ → Option Instance → Effect
regrown table memory key fixed bytes i None = Err BadCall
regrown table memory key fixed bytes i (Some old) =
    if takes table fixed old.ty
    then regrown_in memory key i bytes old (kept_elements table old bytes old.ty)
    else Err Mismatch

abbrev pub regrown_at : Table → List Instance → ObjectKey → Option TypeId → ℕ → Option ℕ → Effect
regrown_at table memory key fixed bytes None = Err BadCall
regrown_at table memory key fixed bytes (Some i) = regrown table memory key fixed bytes i (slice_get memory i)

abbrev pub realloc_of : Table → List Instance → ObjectKey → Option TypeId → ℕ → Cell → Effect
realloc_of table memory key fixed bytes Null = allocated memory key bytes false
realloc_of table memory key fixed bytes cell = regrown_at table memory key fixed bytes (heap_at memory cell)

-- realloc: a new object of a2 bytes with the old one's elements that fit, which ends
abbrev pub realloc_row : Table → List Instance → ObjectKey → Option TypeId → ℕ → Cell → Cell → Effect
realloc_row table memory key fixed word a1 a2 =
    if is_odd word then gives memory null_value else realloc_of table memory key fixed (count_of a2) a1

-- strerror: the first element of an object of the library
abbrev pub object_row : ℕ → List Instance → Effect
object_row position memory = element_of_object memory (object_from position 0 memory)

-- getenv, fopen: the same, or null
abbrev pub perhaps_row : ℕ → List Instance → ℕ → Effect
perhaps_row position memory word = if is_odd word then gives memory null_value else object_row position memory

-- __errno_location: the object itself
abbrev pub place_row : ℕ → List Instance → Effect
place_row position memory = place_of_object memory (object_from position 0 memory)

-- each cell of an object is that number
abbrev pub all_number : Table → ℕ → Option TypeId → CellList
all_number table n None = []
all_number table n (Some id) = map (λ e. (e.0, Number (pos n))) (filled table false (type_of table id.0) [])

-- each cell of an instance becomes that number, and the call gives the place of another one
abbrev pub ctype_set : Table → List Instance → ℕ → ℕ → ℕ → Option Instance → Effect
ctype_set table memory n i place None = Err Mismatch
ctype_set table memory n i place (Some inst) =
    gives (set memory i (record inst { cells = listed (all_number table n inst.ty) })) (one_cell (Pointer place [] false))

abbrev pub ctype_in : Table → List Instance → ℕ → Option ℕ → Option ℕ → Effect
ctype_in table memory n (Some i) (Some place) = ctype_set table memory n i place (slice_get memory i)
ctype_in table memory n i place = Err Mismatch

-- __ctype_b_loc: each cell of `<ctypes>` becomes the word's low 16 bits; the place of `<ctype>`
abbrev pub ctype_row : Table → List Instance → ℕ → Effect
ctype_row table memory word = ctype_in table memory (word % 65536) (object_from 8 0 memory) (object_from 7 0 memory)
