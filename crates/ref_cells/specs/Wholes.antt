-- The type of an instance. What was allocated is an array of as many elements as its bytes hold.
use Rattle.std.specs.Prelude.{ℕ, ◌<◌, ◌/◌, ◌==◌, Bool, true, false, if◌then◌else◌, Option, Some, None}
use Rattle.c_types.specs.declared.key.ObjectKey.{ObjectKey}
use Rattle.c_types.specs.declared.key.ObjectKey.TheVariants.{Call, Star, Library, Outside}
use Rattle.c_types.specs.declared.term.TypeId.{TypeId}
use Rattle.c_types.specs.Trees.{Ctype, ArrayOf}
use Rattle.c_types.specs.Table.{Table, type_of, extent_in, size_below}
use Rattle.ref_cells.specs.declared.instance.Instance.{Instance}
use Rattle.ref_cells.specs.declared.wholes.Whole.{Whole}
use Rattle.ref_cells.specs.declared.wholes.Whole.TheVariants.{One, Many}

-- what a call allocates, the library's `<FILE>`, the third of its objects, and memory from outside
abbrev pub is_allocated : ObjectKey → Bool
is_allocated (Call node) = true
is_allocated (Star function) = true
is_allocated Outside = true
is_allocated (Library object) = object == 2
is_allocated key = false

-- what a call allocates
abbrev pub is_heap : ObjectKey → Bool
is_heap (Call node) = true
is_heap (Star function) = true
is_heap key = false

-- how many elements of a size so many bytes hold: none where there is no size, or it is 0
abbrev pub elements_in : ℕ → Option ℕ → ℕ
elements_in bytes None = 0
elements_in bytes (Some size) = if size == 0 then 0 else bytes / size

-- how many elements of a size an object has: memory from outside that is made with its type is one element, and has
-- no number of bytes
abbrev pub elements_of : ObjectKey → ℕ → Option ℕ → ℕ
elements_of Outside bytes size = if bytes == 0 then 1 else elements_in bytes size
elements_of key bytes size = elements_in bytes size

-- the elements of a type that an object has, as an array
abbrev pub array_in : Table → ObjectKey → ℕ → Ctype → Ctype
array_in table key bytes t = ArrayOf t (Some (elements_of key bytes (size_below (extent_in table t))))

abbrev pub typed_whole : Table → Instance → Option TypeId → Option Ctype
typed_whole table inst None = None
typed_whole table inst (Some id) =
    let t = type_of table id.0 in
    Some (if is_allocated inst.key then array_in table inst.key inst.bytes t else t)

-- the type of an instance, where it has one
abbrev pub whole_of : Table → Instance → Option Ctype
whole_of table inst = typed_whole table inst inst.ty

-- the type that the code has for an object or a part of it
abbrev pub shape_of : Table → Whole → Ctype
shape_of table (One id) = type_of table id.0
shape_of table (Many id n) = ArrayOf (type_of table id.0) (Some n)

abbrev pub shape_in : Table → Option Whole → Option Ctype
shape_in table None = None
shape_in table (Some whole) = Some (shape_of table whole)

-- over a type that is one of the first so many
abbrev pub IsOver : ℕ → Whole → Type 0
IsOver types (One id) = id.0 < types
IsOver types (Many id n) = id.0 < types
