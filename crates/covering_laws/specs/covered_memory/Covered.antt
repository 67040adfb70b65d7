-- What it means that sets cover cells, values and a memory.
use Rattle.std.specs.Prelude.{◌≡◌, ◌⊎◌, ℕ, ◌+◌, ⊤, false, IsTrue, IsSome, List, [], Option, Some, None, slice_get}
use Rattle.c_types.specs.declared.key.ObjectKey.{ObjectKey}
use Rattle.c_types.specs.declared.key.ObjectKey.TheVariants.{Varargs as VarargsKey, Outside as OutsideKey}
use Rattle.c_types.specs.declared.term.PathStep.{PathStep}
use Rattle.c_types.specs.Trees.{Ctype, VaListType, PointerTo, ArrayOf}
use Rattle.c_types.specs.Table.{Table, type_of, extent_in}
use Rattle.sol_model.specs.Families.{Family, Has}
use Rattle.obj_made.specs.declared.object.Content.{Content}
use Rattle.obj_made.specs.declared.object.Content.TheVariants.{Function, Blob, Scalar, Scalars, Typed, Elements}
use Rattle.obj_space.specs.declared.location.Location.{Location}
use Rattle.obj_space.specs.Parts.{type_number}
use Rattle.obj_space.specs.Spots.{Reached, reached, part_at}
use Rattle.obj_space.specs.View.{first_from}
use Rattle.ref_cells.specs.declared.cells.Cell.{Cell}
use Rattle.ref_cells.specs.declared.cells.Cell.TheVariants.{Pointer, Function as FunctionCell}
use Rattle.ref_cells.specs.declared.cells.Value.{Value}
use Rattle.ref_cells.specs.declared.instance.Instance.{Instance}
use Rattle.ref_cells.specs.Cells.{CellList}
use Rattle.ref_cells.specs.Wholes.{is_allocated, whole_of}
use Rattle.type_rules.specs.Kinds.{IsScalar}
use Rattle.covering_laws.specs.covered_memory.Cells.{EachCell}
use Rattle.covering_laws.specs.covered_memory.Spots.{spot, whole_part, IsFurther, room, IsInTree}

-- a program's types and locations, with a set for each row
pub record Sets : Type 0 where
  pub table : Table
  pub space : List Location
  pub family : Family

-- there is a row, there is a location, and the row's set has it
pub record Lands (family : Family) (row found : Option ℕ) : Type 0 where
  pub at : ℕ
  pub location : ℕ
  pub row_is : row ≡ Some at
  pub found_is : found ≡ Some location
  pub has : Has family at location

-- an instance of memory, and a path in its tree whose location is in the row's set
pub record PointsIn (g : Sets) (memory : List Instance) (row : Option ℕ) (i : ℕ)
    (path : List PathStep) : Type 0 where
  pub inst : Instance
  pub inst_is : slice_get memory i ≡ Some inst
  pub in_tree : IsInTree g.table (whole_of g.table inst) (room inst) path
  pub lands : Lands g.family row (spot g.table g.space inst.key path)

-- What a cell points to is in a row's set. Where there is no row, it points to nothing.
abbrev pub CellIn : Sets → List Instance → Option ℕ → Cell → Type 0
CellIn g memory row (Pointer i path past) = PointsIn g memory row i path
CellIn g memory row (FunctionCell key) = Lands g.family row (spot g.table g.space key [])
CellIn g memory row cell = ⊤

-- the row of what lies outside, where the program is entered from there
abbrev pub outside_row : Sets → Option ℕ
outside_row g = first_from 0 g.space OutsideKey

-- the row of a part that is a pointer or a variadic list, where each node has a row
abbrev pub row_by : Ctype → ℕ → Option ℕ
row_by (PointerTo to) row = Some row
row_by VaListType row = Some row
row_by t row = None

abbrev pub pointer_row : (ℕ → ℕ) → Option Reached → Option ℕ
pointer_row row None = None
pointer_row row (Some r) = row_by r.ty (row r.node)

-- the cells of a part: what each points to is in the row of its node, and only pointers and lists point
abbrev pub CellsIn : Sets → List Instance → (ℕ → ℕ) → Option Reached → CellList → Type 0
CellsIn g memory row whole cells =
    EachCell (λ path cell. CellIn g memory (pointer_row row (part_at g.table whole path)) cell) cells

-- the value of a type, whose nodes have these rows
abbrev pub ValueIn : Sets → List Instance → (ℕ → ℕ) → Ctype → Value → Type 0
ValueIn g memory row t value = CellsIn g memory row (Some (reached t 0 false)) value.cells

-- the row of each node of an object that begins at a location; a blob has one
abbrev pub object_row : Content → ℕ → ℕ → ℕ
object_row Blob l node = l
object_row content l node = l + node

-- the type of an instance of an object, where it has one: an allocated one is an array of any length
abbrev pub HasShape : Table → Content → Option Ctype → Type 0
HasShape table Function whole = ⊥
HasShape table Blob whole = (whole ≡ None) ⊎ ((t : Ctype) × (whole ≡ Some t) × IsSome (extent_in table t))
HasShape table (Scalar number) whole = (t : Ctype) × (whole ≡ Some t) × IsScalar t × (type_number t ≡ number)
HasShape table (Scalars number) whole =
    (t : Ctype) × (n : ℕ) × (whole ≡ Some (ArrayOf t (Some n))) × IsScalar t × (type_number t ≡ number)
HasShape table (Typed id) whole =
    (whole ≡ Some (type_of table id.0)) × IsSome (extent_in table (type_of table id.0))
HasShape table (Elements id) whole =
    ((whole ≡ None) ⊎ ((n : ℕ) × (whole ≡ Some (ArrayOf (type_of table id.0) (Some n)))))
    × IsSome (extent_in table (type_of table id.0))

-- what a variadic function is passed past its parameters is in the one row of its object, whatever it is
abbrev pub further_row : ObjectKey → ℕ → Option ℕ → Option ℕ
further_row (VarargsKey e) first row = Some first
further_row key first row = row

-- the row of a cell of an instance whose object begins at a location
abbrev pub cell_row : Table → Instance → Content → ℕ → List PathStep → Option ℕ
cell_row table inst content first path =
    further_row inst.key first
    (pointer_row (object_row content first) (part_at table (whole_part (whole_of table inst)) path))

-- an instance is of an object of the program, has its type, or none yet, and its cells are in the rows of their
-- locations; what a variadic function is passed past its parameters has no type, and its object is a blob
pub record InstanceIn (g : Sets) (memory : List Instance) (inst : Instance) : Type 0 where
  pub first : ℕ
  pub location : Location
  pub first_is : first_from 0 g.space inst.key ≡ Some first
  pub location_is : slice_get g.space first ≡ Some location
  pub shape : HasShape g.table location.content (whole_of g.table inst)
  pub untyped : inst.ty ≡ None → IsTrue (is_allocated inst.key) ⊎ IsFurther inst.key
  pub further : IsFurther inst.key → (inst.ty ≡ None) × (location.content ≡ Blob)
  pub cells : EachCell (λ path cell. CellIn g memory (cell_row g.table inst location.content first path) cell)
      inst.cells

-- each instance of a memory is covered
abbrev pub MemoryIn : Sets → List Instance → Type 0
MemoryIn g memory = (i : ℕ) (inst : Instance) → slice_get memory i ≡ Some inst → InstanceIn g memory inst

-- an instance goes on as the same object: a path that stood in its tree still does, and a type that it had stays
pub record GoesOn (g : Sets) (old new : Instance) : Type 0 where
  pub key : new.key ≡ old.key
  pub in_tree : (path : List PathStep)
      → IsInTree g.table (whole_of g.table old) (room old) path
      → IsInTree g.table (whole_of g.table new) (room new) path
  pub whole : (t : Ctype) → whole_of g.table old ≡ Some t → whole_of g.table new ≡ Some t

-- each instance of a memory goes on in another one, in its place
abbrev pub Extends : Sets → List Instance → List Instance → Type 0
Extends g old new =
    (i : ℕ) (a : Instance) → slice_get old i ≡ Some a → (b : Instance) × (slice_get new i ≡ Some b) × GoesOn g a b

-- a memory that is covered, and in which all that was covered before still is
pub record Leaves (g : Sets) (old new : List Instance) : Type 0 where
  pub extends : Extends g old new
  pub covered : MemoryIn g new
