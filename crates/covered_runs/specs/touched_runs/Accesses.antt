-- Which cells of memory a step of the machine reads, and which it writes.
use Rattle.std.specs.Prelude.{◌≡◌, ◌⊎◌, ℕ, Bool, false, IsTrue, List, [], ◌∷◌, ◌++◌, Option, Some, None, Ok, IsSome}
use Rattle.std.specs.Prelude.{⊤, slice_get, Contains}
use Rattle.c_types.specs.declared.key.ObjectKey.{ObjectKey}
use Rattle.c_types.specs.declared.key.ObjectKey.TheVariants.{Entity as EntityKey, Library as LibraryKey}
use Rattle.c_types.specs.declared.term.PathStep.{PathStep}
use Rattle.c_types.specs.declared.term.PathStep.TheVariants.{Index}
use Rattle.c_types.specs.Trees.{Ctype}
use Rattle.c_types.specs.Table.{Table, type_of}
use Rattle.core_tree.specs.declared.node.Node.{Node}
use Rattle.core_tree.specs.Typed.{CoreTrees}
use Rattle.obj_space.specs.Spots.{reached, part_at}
use Rattle.mod_ref.specs.declared.access.Access.{Access}
use Rattle.mod_ref.specs.Direct.{place_of, accessed, takes_argument, filled_by, IsWrite}
use Rattle.ref_cells.specs.declared.cells.Cell.{Cell}
use Rattle.ref_cells.specs.declared.cells.Cell.TheVariants.{Pointer}
use Rattle.ref_cells.specs.declared.cells.Value.{Value}
use Rattle.ref_cells.specs.declared.instance.Instance.{Instance}
use Rattle.ref_cells.specs.Places.{reach}
use Rattle.ref_cells.specs.Wholes.{whole_of}
use Rattle.ref_mem.specs.Reads.{one_cell, read}
use Rattle.ref_elements.specs.Arguments.{argument}
use Rattle.ref_places.specs.Places.{instance_of}
use Rattle.ref_lib.specs.declared.rows.Making.TheVariants.{Malloc, Calloc, Realloc}
use Rattle.ref_lib.specs.declared.rows.Texts.TheVariants.{Duplicate}
use Rattle.ref_lib.specs.declared.rows.Row.{Row}
use Rattle.ref_lib.specs.declared.rows.Row.TheVariants.{Makes, Writes}
use Rattle.ref_lib.specs.Effects.{rows}
use Rattle.ref_state.specs.declared.items.Item.{Item}
use Rattle.ref_state.specs.declared.items.Item.TheVariants.{Do, Wait, Library}
use Rattle.ref_state.specs.declared.frames.Frame.{Frame}
use Rattle.ref_state.specs.declared.state.State.{State}
use Rattle.ref_state.specs.Values.{cell_in}
use Rattle.ref_frames.specs.Running.{Running}
use Rattle.ref_calls.specs.Library.{object_of}
use Rattle.covering_laws.specs.covered_memory.Spots.{room, IsInTree}
use Rattle.covered_runs.specs.touched_runs.called_frames.Looked.{looked_by}
use Rattle.covered_runs.specs.touched_runs.called_frames.Layers.{AreBeside}

-- ---- nodes
-- A cell at a path of an instance lies in the place of a type: the place is there and of that type, and the path goes
-- on from its own. A structure's cells are those of its members.
pub record IsOfPlace (table : Table) (memory : List Instance) (place : Cell) (t : Ctype) (i : ℕ)
    (path : List PathStep) : Type 0 where
  pub found : Ctype
  pub reached : reach table memory place t ≡ Ok found
  pub front : List PathStep
  pub past : Bool
  pub place_is : place ≡ Pointer i front past
  pub below : List PathStep
  pub path_is : path ≡ front ++ below

-- it is the argument that the list at a place leads to (C11 7.16.1.1)
abbrev pub IsNextOf : Table → List Instance → Cell → Ctype → ℕ → List PathStep → Type 0
IsNextOf table memory place t i path =
    (k : ℕ) × (read table memory place t ≡ Ok (one_cell (Pointer i (Index k ∷ []) false))) × (path ≡ Index k ∷ [])

-- What a node accesses in the step that computes it, from its operands' values: the place that its kind reads or
-- writes; all of the object that it fills, be it zero or set; and of a list also the argument that it takes.
abbrev pub NodeAccesses : CoreTrees
    → List Instance
    → List ℕ
    → Access
    → Node
    → List (ℕ × Value)
    → ℕ
    → List PathStep
    → Type 0
NodeAccesses u memory own access node values i path =
    ((p : ℕ) × (place_of access node.kind node.children ≡ Some p)
    × IsOfPlace u.types memory (cell_in values p) (accessed node.kind (type_of u.types node.ty.0)) i path)
    ⊎ (((e : ℕ) × (filled_by access node.kind ≡ Some e) × (instance_of memory own (EntityKey e) ≡ Some i))
    ⊎ ((p : ℕ) × (place_of access node.kind node.children ≡ Some p) × IsTrue (takes_argument access node.kind)
    × IsNextOf u.types memory (cell_in values p) (accessed node.kind (type_of u.types node.ty.0)) i path))

abbrev pub IsNodeAt : CoreTrees → ℕ → Node → Type 0
IsNodeAt u n node = slice_get u.nodes n ≡ Some node

-- ---- the library
-- a cell of the array in which an argument points, or below the part to which it points
pub record IsOfArgument (argument : Cell) (i : ℕ) (path : List PathStep) : Type 0 where
  pub front : List PathStep
  pub past : Bool
  pub argument_is : argument ≡ Pointer i front past
  pub beside : List PathStep
  pub is_beside : AreBeside beside front
  pub below : List PathStep
  pub path_is : path ≡ beside ++ below

-- What a library function may access: it reads and writes only in the arrays in which the arguments point through
-- which it looks at objects.
abbrev pub CallAccesses : ℕ → List Value → ℕ → List PathStep → Type 0
CallAccesses k arguments i path =
    (m : ℕ) × Contains (looked_by k) m × IsOfArgument (argument arguments m) i path

-- the rows that make an object and set it
abbrev pub IsMaker : Row → Type 0
IsMaker (Makes Malloc) = ⊤
IsMaker (Makes Calloc) = ⊤
IsMaker (Makes Realloc) = ⊤
IsMaker (Writes Duplicate) = ⊤
IsMaker row = ⊥

-- an object that a library function, called at node n, makes and sets; and `<ctypes>`, the library's eighth object,
-- each cell of which `__ctype_b_loc`, its function of number 53, sets
abbrev pub MadeBy : CoreTrees → ℕ → ℕ → ObjectKey → Type 0
MadeBy u n k key =
    ((row : Row) × (slice_get rows k ≡ Some row) × IsMaker row × (key ≡ object_of u n k))
    ⊎ ((k ≡ 53) × (key ≡ LibraryKey 8))

-- ---- a step
-- the cells of memory that the top item of a frame, which has these instances, accesses
abbrev pub ItemAccesses : CoreTrees → List Instance → List ℕ → Access → List Item → ℕ → List PathStep → Type 0
ItemAccesses u memory own access (Do n ∷ items) i path =
    (node : Node) × IsNodeAt u n node × (node.children ≡ []) × NodeAccesses u memory own access node [] i path
ItemAccesses u memory own access (Wait n [] values ∷ items) i path =
    (node : Node) × IsNodeAt u n node × NodeAccesses u memory own access node values i path
ItemAccesses u memory own access (Library n k arguments ∷ items) i path = CallAccesses k arguments i path
ItemAccesses u memory own access items i path = ⊥

-- the objects that it writes as it makes them
abbrev pub ItemMakes : CoreTrees → Access → List Item → ObjectKey → Type 0
ItemMakes u access (Library n k arguments ∷ items) key = IsWrite access × MadeBy u n k key
ItemMakes u access items key = ⊥

-- an instance of the object has a cell at the path
pub record IsCell (table : Table) (memory : List Instance) (i : ℕ) (key : ObjectKey)
    (path : List PathStep) : Type 0 where
  pub inst : Instance
  pub there : slice_get memory i ≡ Some inst
  pub key_is : inst.key ≡ key
  pub in_tree : IsInTree table (whole_of table inst) (room inst) path

-- Where an object may have a cell once a step is done: at the paths of its type's tree, or, as long as it has no type,
-- at any path, since what is copied into an allocated object gives it the type of the copy (C11 6.5p6).
abbrev pub MayHold : Table → Option Ctype → List PathStep → Type 0
MayHold table None path = ⊤
MayHold table (Some t) path = IsSome (part_at table (Some (reached t 0 false)) path)

-- an instance of the object has a cell at the path, or may have one once a step is done
pub record MayBeCell (table : Table) (memory : List Instance) (i : ℕ) (key : ObjectKey)
    (path : List PathStep) : Type 0 where
  pub inst : Instance
  pub there : slice_get memory i ≡ Some inst
  pub key_is : inst.key ≡ key
  pub may_hold : MayHold table (whole_of table inst) path

-- The step of a state reads or writes the cell at a path of an instance of an object: one that the object has before
-- the step, or gets in it. Only the top frame's items do: entering and leaving functions and blocks, the program's
-- start and its end access nothing.
abbrev pub FramesAccess : CoreTrees → List Instance → Access → List Frame → ObjectKey → List PathStep → Type 0
FramesAccess u memory access [] key path = ⊥
FramesAccess u memory access (f ∷ rest) key path =
    ((i : ℕ) × ItemAccesses u memory f.instances access f.items i path × MayBeCell u.types memory i key path)
    ⊎ ItemMakes u access f.items key

abbrev pub StepAccesses : Running → State → Access → ObjectKey → List PathStep → Type 0
StepAccesses w state access key path = FramesAccess w.trees state.memory access state.frames key path
