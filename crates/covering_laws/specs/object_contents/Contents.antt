-- What the objects of a program are made of.
use Rattle.std.specs.Prelude.{◌≡◌, ◌≢◌, ℕ, IsSome, IsTrue, List, [], Some, None, slice_get}
use Rattle.c_types.specs.declared.key.ObjectKey.{ObjectKey}
use Rattle.c_types.specs.declared.key.ObjectKey.TheVariants.{Varargs as VarargsKey}
use Rattle.obj_made.specs.Made.{has_varargs}
use Rattle.c_types.specs.declared.key.ObjectKey.TheVariants.{Entity as EntityKey, Text as TextKey, Call as CallKey}
use Rattle.c_types.specs.declared.key.ObjectKey.TheVariants.{Library as LibraryKey, Star as StarKey}
use Rattle.c_types.specs.declared.key.ObjectKey.TheVariants.{Function as FunctionKey, Outside as OutsideKey}
use Rattle.c_types.specs.declared.term.TypeId.{TypeId}
use Rattle.c_types.specs.Table.{Table, type_of, extent_in}
use Rattle.c_types.specs.Made.{IsMade}
use Rattle.core_tree.specs.declared.node.Entity.{Entity}
use Rattle.core_tree.specs.declared.node.Node.{Node}
use Rattle.core_tree.specs.declared.node.NodeKind.TheVariants.{CallNode}
use Rattle.core_tree.specs.declared.node.Program.{Program}
use Rattle.core_tree.specs.declared.node.Storage.TheVariants.{Declared}
use Rattle.obj_made.specs.declared.object.Content.{Content}
use Rattle.obj_made.specs.declared.object.Content.TheVariants.{Function, Blob, Typed}
use Rattle.obj_made.specs.Made.{entity_content, allocated_content, typed_by, conversion_above, called_entity}
use Rattle.obj_made.specs.Uses.{entity_number, is_allocator, is_named, is_starred}
use Rattle.obj_space.specs.declared.location.Location.{Location}
use Rattle.obj_space.specs.Objects.{LibraryRow, library_rows}
use Rattle.obj_space.specs.Space.{locations_in}
use Rattle.obj_space.specs.Spots.{type_made}
use Rattle.obj_space.specs.View.{first_from}

-- an object that a call makes: the call names an allocating function
pub record IsCallMade (p : Program) (n : ℕ) (content : Content) : Type 0 where
  pub node : Node
  pub there : slice_get p.nodes.items n ≡ Some node
  pub function : Entity
  pub called : called_entity p.nodes.items p.entities.items node ≡ Some function
  pub number : ℕ
  pub numbered : entity_number function ≡ Some number
  pub allocates : IsTrue (is_allocator number)
  pub content_is : content ≡ allocated_content number (typed_by p.types (conversion_above p.nodes.items n))

-- what an object is made of; what is only declared is none
abbrev pub IsMadeOf : Program → ObjectKey → Content → Type 0
IsMadeOf p (EntityKey e) content =
    (x : Entity) × (slice_get p.entities.items e ≡ Some x) × (content ≡ entity_content x.storage x.ty)
    × (x.storage ≡ Declared → ⊥)
IsMadeOf p (TextKey n) content = (x : Node) × (slice_get p.nodes.items n ≡ Some x) × (content ≡ Typed x.ty)
IsMadeOf p (CallKey n) content = IsCallMade p n content
IsMadeOf p (LibraryKey k) content =
    (row : LibraryRow) × (slice_get library_rows k ≡ Some row) × (content ≡ row.content)
IsMadeOf p (VarargsKey e) content =
    (x : Entity) × (slice_get p.entities.items e ≡ Some x) × (content ≡ Blob) × IsTrue (has_varargs p.types x)
IsMadeOf p (StarKey k) content =
    (content ≡ allocated_content k None) × IsTrue (is_starred p.entities.items p.nodes.items k)
IsMadeOf p (FunctionKey k) content =
    (content ≡ Function) × IsTrue (is_named p.entities.items p.nodes.items k)
IsMadeOf p OutsideKey content = (content ≡ Blob) × (p.entries.items ≢ [])

-- what an object is made of is complete
abbrev pub IsMadeWhole : Table → Content → Type 0
IsMadeWhole table content =
    (id : TypeId) → type_made content ≡ Some id → IsSome (extent_in table (type_of table id.0))

-- each location is one of an object that is made so
abbrev pub ContentsKnown : Type 0
ContentsKnown =
    (p : Program) (l : ℕ) (x : Location)
    → IsMade p.types
    → slice_get (locations_in p) l ≡ Some x
    → IsMadeOf p x.key x.content × IsMadeWhole p.types x.content

-- a direct call of an allocating function has an object of its own
abbrev pub CallsMade : Type 0
CallsMade =
    (p : Program) (n : ℕ) (node : Node) (function : Entity) (number : ℕ)
    → IsMade p.types
    → slice_get p.nodes.items n ≡ Some node
    → node.kind ≡ CallNode
    → called_entity p.nodes.items p.entities.items node ≡ Some function
    → entity_number function ≡ Some number
    → IsTrue (is_allocator number)
    → (l : ℕ) × (first_from 0 (locations_in p) (CallKey n) ≡ Some l)

-- what lies outside has a location, and is memory without a type
pub record IsOutside (space : List Location) : Type 0 where
  pub first : ℕ
  pub location : Location
  pub first_is : first_from 0 space OutsideKey ≡ Some first
  pub location_is : slice_get space first ≡ Some location
  pub content_is : location.content ≡ Blob

-- so it is where the program is entered from there
abbrev pub OutsidePlaced : Type 0
OutsidePlaced = (p : Program) → IsMade p.types → p.entries.items ≢ [] → IsOutside (locations_in p)
