-- What a call of a library function leaves, gives and calls back with, and what it takes for that.
use Rattle.std.specs.Prelude.{◌≡◌, ℕ, true, IsTrue, List, [], ◌∷◌, Option, Some, None, Contains, slice_get}
use Rattle.c_types.specs.declared.key.ObjectKey.{ObjectKey}
use Rattle.c_types.specs.declared.term.PathStep.{PathStep}
use Rattle.c_types.specs.declared.term.PathStep.TheVariants.{Index}
use Rattle.c_types.specs.declared.term.TypeId.{TypeId}
use Rattle.c_types.specs.Trees.{Ctype, PointerTo}
use Rattle.c_types.specs.Table.{Table, type_of}
use Rattle.type_rules.specs.Kinds.{IsScalar}
use Rattle.core_tree.specs.declared.node.Node.{Node}
use Rattle.core_tree.specs.Typed.{type_at}
use Rattle.sol_model.specs.declared.system.CallSite.{CallSite}
use Rattle.obj_made.specs.declared.object.Content.{Content}
use Rattle.obj_made.specs.declared.object.Content.TheVariants.{Scalars, Elements as ElementsOf}
use Rattle.obj_space.specs.declared.location.Location.{Location}
use Rattle.obj_space.specs.Parts.{type_number}
use Rattle.obj_space.specs.View.{first_from}
use Rattle.row_numbers.specs.Setting.{Setting}
use Rattle.ref_cells.specs.declared.cells.Cell.{Cell}
use Rattle.ref_cells.specs.declared.cells.Cell.TheVariants.{Pointer}
use Rattle.ref_cells.specs.declared.cells.Value.{Value}
use Rattle.ref_cells.specs.declared.instance.Instance.{Instance}
use Rattle.ref_cells.specs.Wholes.{is_allocated, whole_of}
use Rattle.ref_mem.specs.Reads.{one_cell}
use Rattle.ref_elements.specs.declared.outcome.Next.{Next}
use Rattle.ref_elements.specs.declared.outcome.Next.TheVariants.{Calls}
use Rattle.ref_elements.specs.Arguments.{argument}
use Rattle.ref_elements.specs.Objects.{object_from}
use Rattle.ref_elements.specs.Outcomes.{Effected}
use Rattle.ref_lib.specs.declared.rows.Making.TheVariants.{Malloc, Calloc, Realloc, Perhaps, Object, Place, Classes}
use Rattle.ref_lib.specs.declared.rows.Elements.TheVariants.{CopyBytes, SetBytes, Search, Strtol, Sort, Find}
use Rattle.ref_lib.specs.declared.rows.Texts.TheVariants.{CopyText, AddText, CopyPart, Duplicate, Line}
use Rattle.ref_lib.specs.declared.rows.Row.{Row}
use Rattle.ref_lib.specs.declared.rows.Row.TheVariants.{Makes, Moves, Writes}
use Rattle.normal_form.specs.Assignments.{row_in}
use Rattle.covering_laws.specs.covered_memory.Spots.{spot, room, IsInTree}
use Rattle.covering_laws.specs.covered_memory.Covered.{Sets, CellIn, HasShape, InstanceIn, Leaves}
use Rattle.covering_laws.specs.covered_rows.Nodes.{IsArgument, HeldIn}

-- the row of a place in memory is that of its location
abbrev pub instance_row : Sets → List PathStep → Option Instance → Option ℕ
instance_row g path None = None
instance_row g path (Some inst) = spot g.table g.space inst.key path

abbrev pub place_row : Sets → List Instance → Cell → Option ℕ
place_row g memory (Pointer i path past) = instance_row g path (slice_get memory i)
place_row g memory cell = None

-- the pointers that are put into cells, each with its place, are in the rows of their places
abbrev pub StoresIn : Sets → List Instance → List (Cell × Cell) → Type 0
StoresIn g memory [] = Unit {0}
StoresIn g memory (s ∷ rest) = CellIn g memory (place_row g memory s.0) s.1 × StoresIn g memory rest

-- what an effect leaves is covered, what it gives is covered at the call, and the pointers that it stores at their
-- places
pub record IsEffectIn (g : Sets) (w : Setting) (n : ℕ) (memory : List Instance) (e : Effected) : Type 0 where
  pub leaves : Leaves g memory e.memory
  pub value : HeldIn g w e.memory n e.outcome.value
  pub stores : StoresIn g e.memory e.outcome.stores

-- the calls back of a comparison: the function is the argument, and the two pointers are covered in the rows of two
-- arguments
abbrev pub BackIn : Sets → List Instance → Cell → ℕ → ℕ → Next → Type 0
BackIn g memory compare x y (Calls callee arguments) =
    (callee ≡ compare)
    × (a : Cell)
    × (b : Cell)
    × (arguments ≡ one_cell a ∷ one_cell b ∷ [])
    × CellIn g memory (Some x) a
    × CellIn g memory (Some y) b
BackIn g memory compare x y next = Unit {0}

-- an object that may be allocated without a type
pub record IsFresh (g : Sets) (key : ObjectKey) : Type 0 where
  pub first : ℕ
  pub location : Location
  pub first_is : first_from 0 g.space key ≡ Some first
  pub location_is : slice_get g.space first ≡ Some location
  pub shape : HasShape g.table location.content None
  pub allocated : IsTrue (is_allocated key)

-- an object of scalars of a type that a call makes
pub record IsScalars (g : Sets) (key : ObjectKey) (id : TypeId) : Type 0 where
  pub first : ℕ
  pub location : Location
  pub first_is : first_from 0 g.space key ≡ Some first
  pub location_is : slice_get g.space first ≡ Some location
  pub scalar : ℕ
  pub content_is : location.content ≡ Scalars scalar
  pub is_scalar : IsScalar (type_of g.table id.0)
  pub scalar_is : type_number (type_of g.table id.0) ≡ scalar
  pub allocated : is_allocated key ≡ true

-- an instance with a path in its tree, whose location the call gets from the function of that number
abbrev pub IsPlaceOf : Sets → CallSite → ℕ → List Instance → ℕ → List PathStep → Type 0
IsPlaceOf g site target memory i path =
    (inst : Instance)
    × (l : ℕ)
    × (slice_get memory i ≡ Some inst)
    × IsInTree g.table (whole_of g.table inst) (room inst) path
    × (spot g.table g.space inst.key path ≡ Some l)
    × Contains site.fresh (target, l)

-- where the library's object is whose place a row gives
pub record IsNamed (g : Sets) (site : CallSite) (target : ℕ) (memory : List Instance) (position : ℕ)
    (path : List PathStep) : Type 0 where
  pub known : (i : ℕ) → object_from position 0 memory ≡ Some i → IsPlaceOf g site target memory i path

-- the type that an untyped instance gets is that of its object's elements
abbrev pub Takes : Table → TypeId → Content → Type 0
Takes table id (ElementsOf other) = type_of table id.0 ≡ type_of table other.0
Takes table id content = Unit {0}

-- a call at node n of the function of number target: the object that is made for it, the type of that object's
-- elements where it is fixed, and the values of the arguments
pub record Calling : Type 0 where
  pub sets : Sets
  pub setting : Setting
  pub memory : List Instance
  pub n : ℕ
  pub node : Node
  pub site : CallSite
  pub target : ℕ
  pub key : ObjectKey
  pub fixed : Option TypeId
  pub arguments : List Value

module _ (c : Calling) where
  -- the call gives a pointer
  abbrev pub IsGiven : Type 0
  IsGiven = (to : Ctype) × (type_at c.setting.trees c.n ≡ PointerTo to)

  -- an argument is a pointer that is covered
  abbrev pub HasArgument : ℕ → Type 0
  HasArgument k =
      (a : ℕ)
      × (t : Ctype)
      × IsArgument c.setting.trees c.node k a
      × (type_at c.setting.trees a ≡ PointerTo t)
      × HeldIn c.sets c.setting c.memory a (one_cell (argument c.arguments k))

  -- the object that the call makes is the call's
  abbrev pub IsFreshHere : Type 0
  IsFreshHere = (f : IsFresh c.sets c.key) × Contains c.site.fresh (c.target, f.first)

  -- where that object is of elements of a type, that is the call's fixed type
  abbrev pub IsFixedHere : Content → Type 0
  IsFixedHere content =
      (other : TypeId)
      → content ≡ ElementsOf other
      → (id : TypeId) × (c.fixed ≡ Some id) × (type_of c.sets.table id.0 ≡ type_of c.sets.table other.0)

  -- what has no type takes any
  abbrev pub TakesAny : Type 0
  TakesAny =
      (id : TypeId) (i : ℕ) (x : Instance)
      → slice_get c.memory i ≡ Some x
      → (h : InstanceIn c.sets c.memory x)
      → x.ty ≡ None
      → Takes c.sets.table id h.location.content

  abbrev pub IsNamedHere : ℕ → List PathStep → Type 0
  IsNamedHere position path = IsNamed c.sets c.site c.target c.memory position path

  -- the object that the call makes is one of scalars of the fixed type
  abbrev pub IsTextHere : Type 0
  IsTextHere =
      (id : TypeId)
      × (c.fixed ≡ Some id)
      × (x : IsScalars c.sets c.key id)
      × Contains c.site.fresh (c.target, x.first)

  -- what a row takes of the call
  abbrev pub Needs : Row → Type 0
  Needs (Makes Malloc) = IsGiven × IsFreshHere
  Needs (Makes Calloc) = IsGiven × IsFreshHere
  Needs (Makes Realloc) = IsGiven × HasArgument 0 × (x : IsFreshHere) × IsFixedHere x.0.location.content
  Needs (Makes (Perhaps position)) = IsGiven × IsNamedHere position (Index 0 ∷ [])
  Needs (Makes (Object position)) = IsGiven × IsNamedHere position (Index 0 ∷ [])
  Needs (Makes (Place position)) = IsGiven × IsNamedHere position []
  Needs (Makes Classes) = IsGiven × IsNamedHere 7 []
  Needs (Moves CopyBytes) = IsGiven × HasArgument 0 × HasArgument 1 × TakesAny
  Needs (Moves SetBytes) = IsGiven × HasArgument 0
  Needs (Moves Search) = IsGiven × HasArgument 0
  Needs (Moves Strtol) = HasArgument 0 × HasArgument 1
  Needs (Moves Sort) = HasArgument 0
  Needs (Moves Find) = IsGiven × HasArgument 0 × HasArgument 1
  Needs (Writes CopyText) = IsGiven × HasArgument 0
  Needs (Writes AddText) = IsGiven × HasArgument 0
  Needs (Writes CopyPart) = IsGiven × HasArgument 0
  Needs (Writes Line) = IsGiven × HasArgument 0
  Needs (Writes Duplicate) = IsGiven × IsTextHere
  Needs row = Unit {0}

  -- what is covered where a row calls back
  abbrev pub Backs : (row : Row) → Needs row → Next → Type 0
  Backs (Moves Sort) needs next =
      BackIn c.sets c.memory (argument c.arguments 3) (row_in c.setting needs.0) (row_in c.setting needs.0) next
  Backs (Moves Find) needs next =
      BackIn c.sets c.memory (argument c.arguments 4) (row_in c.setting needs.1.0) (row_in c.setting needs.2.0) next
  Backs row needs next = Unit {0}
