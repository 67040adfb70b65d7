-- The objects that live for the whole run, before any initialiser (C11 5.1.2, 6.2.4p3, 6.7.9p10).
use Rattle.std.specs.Prelude.{ℕ, ◌+◌, ◌==◌, not, Bool, true, false, if◌then◌else◌, ℤ, pos, List, [], ◌∷◌, Option}
use Rattle.std.specs.Prelude.{Some, None, map, slice_get}
use Rattle.std.specs.List.{cons_option}
use Rattle.c_types.specs.declared.key.ObjectKey.{ObjectKey}
use Rattle.c_types.specs.declared.key.ObjectKey.TheVariants.{Entity as EntityKey, Text as TextKey}
use Rattle.c_types.specs.declared.key.ObjectKey.TheVariants.{Library as LibraryKey}
use Rattle.c_types.specs.declared.term.PathStep.TheVariants.{Index}
use Rattle.c_types.specs.declared.term.TypeId.{TypeId}
use Rattle.core_tree.specs.declared.node.Node.{Node}
use Rattle.core_tree.specs.declared.node.NodeKind.{NodeKind}
use Rattle.core_tree.specs.declared.node.NodeKind.TheVariants.{Text}
use Rattle.core_tree.specs.declared.node.Entity.{Entity}
use Rattle.core_tree.specs.declared.node.Storage.{Storage}
use Rattle.core_tree.specs.declared.node.Storage.TheVariants.{Static}
use Rattle.core_tree.specs.Typed.{CoreTrees}
use Rattle.type_rules.specs.Kinds.{character}
use Rattle.obj_space.specs.declared.location.Location.{Location}
use Rattle.obj_space.specs.Found.{same_object}
use Rattle.ref_cells.specs.declared.cells.Cell.{Cell}
use Rattle.ref_cells.specs.declared.cells.Cell.TheVariants.{Number, Pointer}
use Rattle.ref_cells.specs.declared.instance.Instance.{Instance}
use Rattle.ref_cells.specs.Cells.{CellList}
use Rattle.ref_cells.specs.Numbers.{converted}
use Rattle.ref_mem.specs.Writes.{changed}
use Rattle.ref_elements.specs.Objects.{object_from}
use Rattle.ref_state.specs.declared.ref_types.types.LibraryTypes.{LibraryTypes}
use Rattle.ref_state.specs.ref_types.Types.{type_in}

-- the types of the library's objects in order, none for `<FILE>`
abbrev pub object_types : LibraryTypes → List (Option TypeId)
object_types ids =
    Some ids.text
    ∷ Some ids.text
    ∷ None
    ∷ Some ids.pointer
    ∷ Some ids.pointer
    ∷ Some ids.pointer
    ∷ Some ids.number
    ∷ Some ids.pointer
    ∷ Some ids.classes
    ∷ Some ids.arguments
    ∷ Some ids.argument
    ∷ []

-- an object that lives, whose cells are these, and zero or null where none is listed
abbrev pub object_with : ObjectKey → Option TypeId → CellList → Instance
object_with key ty cells = record { key = key; live = true; ty = ty; bytes = 0; zero = true; cells = cells }

-- cells one after another, at the indices from that one on
abbrev pub cells_from : ℕ → List Cell → CellList
cells_from i [] = []
cells_from i (cell ∷ rest) = (Index i ∷ [], cell) ∷ cells_from (i + 1) rest

-- the numbers of characters, as cells
abbrev pub numbers : List ℤ → List Cell
numbers text = map (λ c. Number c) text

-- bytes as characters
abbrev pub characters : List ℕ → List ℤ
characters bytes = map (λ b. converted character (pos b)) bytes

-- an object of characters that holds a text
abbrev pub text_object : ObjectKey → TypeId → List ℤ → Instance
text_object key ty text = object_with key (Some ty) (cells_from 0 (numbers text))

abbrev pub is_static : Storage → Bool
is_static Static = true
is_static storage = false

abbrev pub entity_object : ObjectKey → Option Entity → Option Instance
entity_object key None = None
entity_object key (Some entity) =
    if is_static entity.storage then Some (object_with key (Some entity.ty) []) else None

abbrev pub literal_by : ObjectKey → TypeId → NodeKind → Option Instance
literal_by key ty (Text bytes) = Some (text_object key ty (characters bytes))
literal_by key ty kind = None

abbrev pub literal_object : ObjectKey → Option Node → Option Instance
literal_object key None = None
literal_object key (Some node) = literal_by key node.ty node.kind

-- an object that lives for the whole run: a static one, a string literal, one of the library but for the texts of
-- main's arguments
abbrev pub object_of : CoreTrees → LibraryTypes → ObjectKey → Option Instance
object_of u ids (EntityKey e) = entity_object (EntityKey e) (slice_get u.entities e)
object_of u ids (TextKey n) = literal_object (TextKey n) (slice_get u.nodes n)
object_of u ids (LibraryKey position) =
    if position == 10 then None
    else Some (object_with (LibraryKey position) (type_in (slice_get (object_types ids) position)) [])
object_of u ids key = None

-- a location of another object than the one before
abbrev pub is_new : Option ObjectKey → ObjectKey → Bool
is_new None key = true
is_new (Some before) key = not (same_object key before)

abbrev pub object_at : CoreTrees → LibraryTypes → Option ObjectKey → ObjectKey → Option Instance
object_at u ids before key = if is_new before key then object_of u ids key else None

-- the objects of these locations, each at the first of its own
abbrev pub objects_after : CoreTrees → LibraryTypes → Option ObjectKey → List Location → List Instance
objects_after u ids before [] = []
objects_after u ids before (x ∷ rest) =
    cons_option (object_at u ids before x.key) (objects_after u ids (Some x.key) rest)

-- a library object points to an element of another one, where there are both
abbrev pub points_to : Option ℕ → Option ℕ → ℕ → List Instance → List Instance
points_to (Some from) (Some to) i memory =
    changed memory from (slice_get memory from)
    (λ inst. record inst { cells = ([], Pointer to (Index i ∷ []) false) ∷ [] })
points_to from to i memory = memory

abbrev pub pointed : ℕ → ℕ → ℕ → List Instance → List Instance
pointed from to i memory = points_to (object_from from 0 memory) (object_from to 0 memory) i memory

-- the streams point to `<FILE>`, and `<ctype>` into `<ctypes>`
abbrev pub library_pointed : List Instance → List Instance
library_pointed memory = pointed 7 8 128 (pointed 5 2 0 (pointed 4 2 0 (pointed 3 2 0 memory)))

-- the objects that live for the whole run
unfoldable pub static_objects : CoreTrees → List Location → LibraryTypes → List Instance
static_objects u space ids = library_pointed (objects_after u ids None space)
