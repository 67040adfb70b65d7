-- The memory in which a run begins: the objects that live for the whole run, with their initialisers (C11 6.7.9).
use Rattle.std.specs.Prelude.{ℕ, false, List, [], ◌∷◌, Option, Some, None, slice_get}
use Rattle.c_types.specs.declared.key.ObjectKey.TheVariants.{Entity as EntityKey}
use Rattle.c_types.specs.declared.term.PathStep.{PathStep}
use Rattle.c_types.specs.declared.term.TypeId.{TypeId}
use Rattle.core_tree.specs.declared.node.Node.{Node}
use Rattle.core_tree.specs.declared.node.NodeKind.{NodeKind}
use Rattle.core_tree.specs.declared.node.NodeKind.TheVariants.{Initialise}
use Rattle.core_tree.specs.declared.node.Entity.{Entity}
use Rattle.core_tree.specs.Typed.{CoreTrees}
use Rattle.obj_space.specs.declared.location.Location.{Location}
use Rattle.ref_cells.specs.declared.cells.Cell.TheVariants.{Unset}
use Rattle.ref_cells.specs.declared.cells.Value.{Value}
use Rattle.ref_cells.specs.declared.instance.Instance.{Instance}
use Rattle.ref_cells.specs.Cells.{CellList}
use Rattle.ref_mem.specs.declared.writes.Initial.{Initial}
use Rattle.ref_mem.specs.Writes.{changed, initialised}
use Rattle.ref_state.specs.declared.ref_types.types.LibraryTypes.{LibraryTypes}
use Rattle.ref_places.specs.Places.{first_instance}
use Rattle.ref_start.specs.Objects.{static_objects}
use Rattle.ref_start.specs.Fixed.{Fixing, fixed, static_body}

-- a value whose computation stops leaves its cell unset
abbrev pub cells_by : Option Value → CellList
cells_by (Some value) = value.cells
cells_by None = ([], Unset) ∷ []

abbrev pub id_in : Option Node → TypeId
id_in None = record { 0 = 0 }
id_in (Some node) = node.ty

-- a part of an initialiser, and all of them, by their nodes' values
abbrev pub part_of : List Node → Fixing → List PathStep → ℕ → Initial
part_of nodes fix path v =
    record { path = path; ty = id_in (slice_get nodes v); cells = cells_by (fix v) }

abbrev pub parts_of : List Node → Fixing → List (List PathStep) → List ℕ → List Initial
parts_of nodes fix (path ∷ paths) (v ∷ children) = part_of nodes fix path v ∷ parts_of nodes fix paths children
parts_of nodes fix paths children = []

abbrev pub filled_at : CoreTrees → List Instance → Option ℕ → List Initial → List Instance
filled_at u memory None parts = memory
filled_at u memory (Some i) parts = changed memory i (slice_get memory i) (initialised u.types false parts)

abbrev pub filled_by : CoreTrees → List Instance → List Instance → NodeKind → List ℕ → List Instance
filled_by u objects memory (Initialise e paths) children =
    filled_at u memory (first_instance (EntityKey e) 0 memory) (parts_of u.nodes (fixed u objects) paths children)
filled_by u objects memory kind children = memory

abbrev pub filled_in : CoreTrees → List Instance → List Instance → Option Node → List Instance
filled_in u objects memory None = memory
filled_in u objects memory (Some node) = filled_by u objects memory node.kind node.children

abbrev pub filled_if : CoreTrees → List Instance → List Instance → Option ℕ → List Instance
filled_if u objects memory None = memory
filled_if u objects memory (Some b) = filled_in u objects memory (slice_get u.nodes b)

-- the static objects of these entities get their initialisers, whose values are fixed over the objects before any
-- initialiser
abbrev pub all_filled : CoreTrees → List Instance → List Entity → List Instance → List Instance
all_filled u objects [] memory = memory
all_filled u objects (entity ∷ rest) memory =
    all_filled u objects rest (filled_if u objects memory (static_body entity))

abbrev pub filled_over : CoreTrees → List Instance → List Instance
filled_over u objects = all_filled u objects u.entities objects

-- the memory of a program that starts
unfoldable pub start_memory : CoreTrees → List Location → LibraryTypes → List Instance
start_memory u space ids = filled_over u (static_objects u space ids)
