-- That what library calls take of a state is there.
use Rattle.std.specs.Prelude.{◌≡◌, ℕ, ⊤, true, IsSome, IsTrue, List, [], ◌∷◌, Option, Some, Contains, length}
use Rattle.std.specs.Prelude.{slice_get}
use Rattle.c_types.specs.declared.key.ObjectKey.TheVariants.{Call as CallKey, Library as LibraryKey}
use Rattle.c_types.specs.declared.term.PathStep.TheVariants.{Index}
use Rattle.c_types.specs.declared.term.Term.{Term}
use Rattle.c_types.specs.declared.term.TypeId.{TypeId}
use Rattle.c_types.specs.Trees.{Ctype, IntegerType, PointerTo}
use Rattle.c_types.specs.Table.{type_of, extent_in}
use Rattle.c_types.specs.Made.{IsMade, AreNamed}
use Rattle.core_tree.specs.declared.node.Entity.{Entity}
use Rattle.core_tree.specs.declared.node.Node.{Node}
use Rattle.core_tree.specs.declared.node.NodeKind.TheVariants.{CallNode}
use Rattle.core_tree.specs.declared.node.Program.{Program}
use Rattle.core_tree.specs.Typed.{trees_in, type_at}
use Rattle.sol_model.specs.declared.system.System.{System}
use Rattle.sol_model.specs.declared.system.CallSite.{CallSite}
use Rattle.sol_model.specs.declared.system.Function.{Function}
use Rattle.obj_made.specs.declared.object.Content.{Content}
use Rattle.obj_made.specs.Made.{allocated_content, called_entity}
use Rattle.obj_made.specs.Uses.{entity_number, is_allocator}
use Rattle.obj_space.specs.declared.location.Location.{Location}
use Rattle.obj_space.specs.Objects.{LibraryRow, library_rows}
use Rattle.obj_space.specs.Space.{locations_in}
use Rattle.obj_space.specs.Spots.{type_made}
use Rattle.obj_space.specs.View.{first_from}
use Rattle.call_sites.specs.Calls.{head_of, named_library}
use Rattle.ref_cells.specs.declared.cells.Value.{Value}
use Rattle.ref_cells.specs.declared.instance.Instance.{Instance}
use Rattle.ref_lib.specs.declared.rows.Making.TheVariants.{Malloc, Calloc, Realloc, Perhaps}
use Rattle.ref_lib.specs.declared.rows.Making.TheVariants.{Object, Place, Classes}
use Rattle.ref_lib.specs.declared.rows.Row.{Row}
use Rattle.ref_lib.specs.declared.rows.Row.TheVariants.{Makes, Writes}
use Rattle.ref_lib.specs.declared.rows.Texts.TheVariants.{Duplicate}
use Rattle.ref_lib.specs.Effects.{rows}
use Rattle.covering_laws.specs.grown_programs.Grown.{with_terms, with_types, MayFollow}
use Rattle.covering_laws.specs.covered_memory.Covered.{MemoryIn}
use Rattle.covering_laws.specs.covered_memory.Demands.{Grounds}
use Rattle.covering_laws.specs.covered_rows.Laws.{Solved, sets_in}
use Rattle.covering_laws.specs.covered_rows.Nodes.{IsArgument, HeldIn}
use Rattle.covering_laws.specs.covered_library.Calls.{IsNamed, IsFresh, IsScalars, Calling, HasArgument}
use Rattle.covering_laws.specs.covered_library.Laws.{IsLibraryCall}

-- what a system stands on stays so over the table with more types
abbrev pub GroundsGrow : Type 0
GroundsGrow =
    (p : Program) (more : List Term) (system : System)
    → IsMade p.types
    → AreNamed p.types
    → MayFollow (length p.types.terms) more
    → Grounds p.types (locations_in p) system
    → Grounds (with_terms p.types more) (locations_in p) system

-- each library object of these locations is made as its row says
abbrev pub HasLibrary : List Location → Type 0
HasLibrary space =
    (l : ℕ) (x : Location) (k : ℕ)
    → slice_get space l ≡ Some x
    → x.key ≡ LibraryKey k
    → (row : LibraryRow) × (slice_get library_rows k ≡ Some row) × (x.content ≡ row.content)

abbrev pub LibraryMade : Type 0
LibraryMade =
    (p : Program) (l : ℕ) (x : Location) (k : ℕ)
    → IsMade p.types
    → slice_get (locations_in p) l ≡ Some x
    → x.key ≡ LibraryKey k
    → (row : LibraryRow) × (slice_get library_rows k ≡ Some row) × (x.content ≡ row.content)

-- the library object that the function's row names is where the row says, and it is the call's
pub record NamesMet (s : Solved) (site : CallSite) (target : ℕ) (memory : List Instance) (library : ℕ)
    : Type 0 where
  pub perhaps : (position : ℕ)
      → slice_get rows library ≡ Some (Makes (Perhaps position))
      → IsNamed (sets_in s) site target memory position (Index 0 ∷ [])
  pub object : (position : ℕ)
      → slice_get rows library ≡ Some (Makes (Object position))
      → IsNamed (sets_in s) site target memory position (Index 0 ∷ [])
  pub place : (position : ℕ)
      → slice_get rows library ≡ Some (Makes (Place position))
      → IsNamed (sets_in s) site target memory position []
  pub classes : slice_get rows library ≡ Some (Makes Classes) → IsNamed (sets_in s) site target memory 7 []

abbrev pub NamesAreMet : Type 0
NamesAreMet =
    (s : Solved) (n : ℕ) (node : Node) (site : CallSite) (target : ℕ) (function : Function) (library : ℕ)
    (memory : List Instance)
    → IsLibraryCall s n node site target function library
    → HasLibrary s.space
    → MemoryIn (sets_in s) memory
    → NamesMet s site target memory library

-- an object that a direct call makes: the call names an allocating function, whose number says what it is made of
pub record IsCallObject (s : Solved) (n : ℕ) (content : Content) : Type 0 where
  pub node : Node
  pub there : slice_get s.program.nodes.items n ≡ Some node
  pub function : Entity
  pub called : called_entity s.program.nodes.items s.program.entities.items node ≡ Some function
  pub number : ℕ
  pub numbered : entity_number function ≡ Some number
  pub elements : Option TypeId
  pub content_is : content ≡ allocated_content number elements
  pub whole : (id : TypeId)
      → type_made content ≡ Some id
      → IsSome (extent_in s.program.types (type_of s.program.types id.0))

-- each such object of the locations is one, and each direct call of an allocating function has one
pub record HasCalls (s : Solved) : Type 0 where
  pub made : (l : ℕ) (x : Location) (n : ℕ)
      → slice_get s.space l ≡ Some x
      → x.key ≡ CallKey n
      → IsCallObject s n x.content
  pub there : (n : ℕ) (node : Node) (function : Entity) (number : ℕ)
      → slice_get s.program.nodes.items n ≡ Some node
      → node.kind ≡ CallNode
      → called_entity s.program.nodes.items s.program.entities.items node ≡ Some function
      → entity_number function ≡ Some number
      → IsTrue (is_allocator number)
      → (l : ℕ) × (first_from 0 s.space (CallKey n) ≡ Some l)

-- a node that is a call, whose callee is its first child
pub record IsDirectCall (s : Solved) (n : ℕ) (node : Node) (library : ℕ) : Type 0 where
  pub there : slice_get s.program.nodes.items n ≡ Some node
  pub kind : node.kind ≡ CallNode
  pub callee : slice_get node.children 0 ≡ Some (head_of node.children)
  pub named : named_library (trees_in s.program) node ≡ Some library

-- the rows of functions that make an object without a type
abbrev pub MakesBare : Row → Type 0
MakesBare (Makes Malloc) = ⊤
MakesBare (Makes Calloc) = ⊤
MakesBare (Makes Realloc) = ⊤
MakesBare row = ⊥

-- what a direct call of such a function makes is the call's own object
abbrev pub FreshIsMet : Type 0
FreshIsMet =
    (s : Solved) (n : ℕ) (node : Node) (site : CallSite) (target : ℕ) (function : Function) (library : ℕ) (row : Row)
    → IsLibraryCall s n node site target function library
    → IsDirectCall s n node library
    → HasCalls s
    → slice_get rows library ≡ Some row
    → MakesBare row
    → (f : IsFresh (sets_in s) (CallKey n)) × Contains site.fresh (target, f.first)

-- what a direct call of strdup makes is the call's own object, of characters
abbrev pub TextIsMet : Type 0
TextIsMet =
    (s : Solved) (n : ℕ) (node : Node) (site : CallSite) (target : ℕ) (function : Function) (library : ℕ)
    → IsLibraryCall s n node site target function library
    → IsDirectCall s n node library
    → HasCalls s
    → slice_get rows library ≡ Some (Writes Duplicate)
    → (id : TypeId)
    → type_of s.program.types id.0 ≡ IntegerType 1 1 true
    → (x : IsScalars (sets_in s) (CallKey n) id) × Contains site.fresh (target, x.first)

-- what is said of call objects and of direct calls holds of each program's locations, and so of the program with
-- more types
abbrev pub CallsAreMade : Type 0
CallsAreMade =
    (p : Program) (more : List Term) (s : Solved)
    → IsMade p.types
    → AreNamed p.types
    → MayFollow (length p.types.terms) more
    → s.program ≡ with_types p more
    → s.space ≡ locations_in p
    → HasCalls s

-- a pointer that is given to a library function is covered as its argument
abbrev pub ArgumentMet : Type 0
ArgumentMet =
    (c : Calling) (k a : ℕ) (t : Ctype) (v : Value)
    → IsArgument c.setting.trees c.node k a
    → slice_get c.arguments k ≡ Some v
    → type_at c.setting.trees a ≡ PointerTo t
    → HeldIn c.sets c.setting c.memory a v
    → HasArgument c k
