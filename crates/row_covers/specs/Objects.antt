-- Instances that are of a program's objects, as the code decides it.
use Rattle.std.specs.Prelude.{◌≡◌, ◌⊎◌, ℕ, ◌==◌, Bool, true, false, List, Option, Some, None, IsSome, IsTrue, All, length, slice_get}
use Rattle.c_types.specs.declared.key.ObjectKey.{ObjectKey}
use Rattle.c_types.specs.declared.key.ObjectKey.TheVariants.{Varargs as VarargsKey}
use Rattle.c_types.specs.declared.term.TypeId.{TypeId}
use Rattle.c_types.specs.declared.term.Class.{Class}
use Rattle.c_types.specs.declared.term.Class.TheVariants.{Pointer as PointerClass, Integer as IntegerClass}
use Rattle.c_types.specs.Trees.{Ctype, ArrayOf}
use Rattle.c_types.specs.Table.{Table, type_of, extent_in}
use Rattle.type_rules.specs.Kinds.{IsScalar}
use Rattle.obj_made.specs.declared.object.Content.{Content}
use Rattle.obj_made.specs.declared.object.Content.TheVariants.{Function, Blob, Scalar, Scalars, Typed, Elements}
use Rattle.obj_space.specs.declared.location.Location.{Location}
use Rattle.obj_space.specs.Parts.{size_number, type_number}
use Rattle.obj_space.specs.View.{first_from}
use Rattle.ref_cells.specs.declared.instance.Instance.{Instance}
use Rattle.ref_cells.specs.Cells.{CellList}
use Rattle.ref_cells.specs.Places.{IsKnown}
use Rattle.ref_cells.specs.Wholes.{is_allocated, whole_of}
use Rattle.covering_laws.specs.covered_memory.Spots.{whole_part}
use Rattle.covering_laws.specs.covered_memory.Covered.{Sets}
use Rattle.row_covers.specs.declared.cells.NodeRows.{NodeRows}
use Rattle.row_covers.specs.declared.cells.NodeRows.TheVariants.{Object as ObjectRows, Blob as BlobRow}
use Rattle.row_covers.specs.Cells.{row_by, AreIn}
use Rattle.row_covers.specs.Values.{RowHas}

-- the class of the scalars of that number
abbrev pub is_class_of : ℕ → Class → Bool
is_class_of number (IntegerClass size) = number == size_number size
is_class_of number PointerClass = number == 4
is_class_of number class = false

-- a scalar, of the class of that number
abbrev pub IsScalarOf : ℕ → Ctype → Type 0
IsScalarOf number t = IsScalar t × (type_number t ≡ number)

-- the elements of an array of known length
abbrev pub element_in : Ctype → Option Ctype
element_in (ArrayOf of (Some n)) = Some of
element_in t = None

abbrev pub IsArrayOf : (Ctype → Type 0) → Option Ctype → Type 0
IsArrayOf P None = ⊥
IsArrayOf P (Some of) = P of

abbrev pub IsComplete : Table → ℕ → Type 0
IsComplete table id = IsSome (extent_in table (type_of table id))

-- a type that an instance of an object may have
abbrev pub FitsContent : Table → Content → Ctype → Type 0
FitsContent table Function t = ⊥
FitsContent table Blob t = IsSome (extent_in table t)
FitsContent table (Scalar number) t = IsScalarOf number t
FitsContent table (Scalars number) t = IsArrayOf (IsScalarOf number) (element_in t)
FitsContent table (Typed id) t = IsComplete table id.0 × (t ≡ type_of table id.0)
FitsContent table (Elements id) t = IsComplete table id.0 × IsArrayOf (λ of. of ≡ type_of table id.0) (element_in t)

-- an object whose instance may be without a type
abbrev pub MayWait : Table → Content → Type 0
MayWait table Blob = Unit {0}
MayWait table (Elements id) = IsComplete table id.0
MayWait table content = ⊥

abbrev pub ShapeBy : Table → Content → Option Ctype → Type 0
ShapeBy table content None = MayWait table content
ShapeBy table content (Some t) = FitsContent table content t

abbrev pub rows_of : Content → ℕ → NodeRows
rows_of Blob first = BlobRow first
rows_of content first = ObjectRows first

-- the object of what a variadic function is passed past its parameters
abbrev pub is_further : ObjectKey → Bool
is_further (VarargsKey e) = true
is_further key = false

-- it has no type, and is a blob; any other instance has a type, or is allocated
abbrev pub KindBy : Bool → Option TypeId → ObjectKey → Content → Type 0
KindBy true ty key content = (ty ≡ None) × (content ≡ Blob)
KindBy false ty key content = IsSome ty ⊎ IsTrue (is_allocated key)

-- all that it has is in its one row; the cells of any other instance are in the rows of their locations
abbrev pub OwnBy : Sets → List Instance → Bool → Content → ℕ → Option Ctype → CellList → Type 0
OwnBy g memory true content first whole cells = RowHas g memory (Some first) cells
OwnBy g memory false content first whole cells =
    AreIn g memory (row_by g.table (rows_of content first)) (whole_part whole) cells

-- an instance of the object that begins there
abbrev pub LocatedBy : Sets → List Instance → Instance → ℕ → Option Location → Type 0
LocatedBy g memory inst first None = ⊥
LocatedBy g memory inst first (Some x) =
    ShapeBy g.table x.content (whole_of g.table inst)
    × KindBy (is_further inst.key) inst.ty inst.key x.content
    × OwnBy g memory (is_further inst.key) x.content first (whole_of g.table inst) inst.cells

abbrev pub InstanceBy : Sets → List Instance → Instance → Option ℕ → Type 0
InstanceBy g memory inst None = ⊥
InstanceBy g memory inst (Some first) = LocatedBy g memory inst first (slice_get g.space first)

-- an instance of a type of the table, or of none, of its object
abbrev pub KnownBy : Sets → List Instance → Instance → Type 0
KnownBy g memory inst =
    IsKnown (length g.table.terms) inst.ty × InstanceBy g memory inst (first_from 0 g.space inst.key)

-- each instance of a memory
unfoldable pub MemoryBy : Sets → List Instance → Type 0
MemoryBy g memory = All (λ inst. KnownBy g memory inst) memory
