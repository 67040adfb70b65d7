-- What makes the names of a program's locations distinct.
use Rattle.std.specs.Prelude.{ℕ, ◌≡◌, ◌≢◌, ◌<◌, ◌^◌, ⊤, Bool, true, false, List, Some, slice_get, length}
use Rattle.pta_base.specs.declared.place.Place.{Place}
use Rattle.c_types.specs.declared.term.MemberTerm.{MemberTerm}
use Rattle.c_types.specs.Table.{members_in}
use Rattle.core_tree.specs.declared.node.Program.{Program}
use Rattle.core_tree.specs.declared.node.Node.{Node}
use Rattle.core_tree.specs.declared.node.NodeKind.{NodeKind}
use Rattle.core_tree.specs.declared.node.NodeKind.TheVariants.{Text, CallNode}
use Rattle.core_tree.specs.declared.node.Entity.{Entity}
use Rattle.core_tree.specs.declared.node.Linkage.TheVariants.{External, Internal, Local}
use Rattle.core_tree.specs.declared.node.Storage.TheVariants.{FunctionBody, Declared}
use Rattle.obj_made.specs.Uses.{is_literal}
use Rattle.obj_space.specs.Space.{DistinctNames, locations_in}
use Rattle.linked_laws.specs.location_laws.name_shapes.Bytes.{is_unit_byte, is_letter, IsMadeOf, IsWord}

-- members of one structure or union have different names, which are identifiers
pub record AreMembers (members : List MemberTerm) : Type 0 where
  pub few : length members < 2 ^ 32
  pub letters : (k : ℕ) (m : MemberTerm) (name : List ℕ)
      → slice_get members k ≡ Some m
      → m.name ≡ Some name
      → IsMadeOf is_letter name
  pub once : (i j : ℕ) (m n : MemberTerm) (name : List ℕ)
      → slice_get members i ≡ Some m
      → slice_get members j ≡ Some n
      → m.name ≡ Some name
      → n.name ≡ Some name
      → i ≡ j

-- a place in one of the program's units, whose numbers have 32 bits
pub record IsPlace (p : Program) (place : Place) : Type 0 where
  pub unit : place.unit < length p.names.items
  pub line : place.line < 2 ^ 32
  pub column : place.column < 2 ^ 32

-- the units' names differ, and have neither ':' nor '@' nor '*'
pub record AreUnitNames (names : List (List ℕ)) : Type 0 where
  pub bytes : (u : ℕ) (name : List ℕ) → slice_get names u ≡ Some name → IsMadeOf is_unit_byte name
  pub once : (u v : ℕ) (name : List ℕ) → slice_get names u ≡ Some name → slice_get names v ≡ Some name → u ≡ v

-- the entity of that number
abbrev pub IsEntity : Program → ℕ → Entity → Type 0
IsEntity p e x = slice_get p.entities.items e ≡ Some x

abbrev pub IsNode : Program → ℕ → Node → Type 0
IsNode p n node = slice_get p.nodes.items n ≡ Some node

-- a compound literal makes the entity, or none does
abbrev pub ByLiteral : Program → ℕ → Bool → Type 0
ByLiteral p e literal = is_literal p.nodes.items e ≡ literal

-- a local that no literal makes: an object without linkage
pub record IsLocalObject (p : Program) (e : ℕ) (x : Entity) : Type 0 where
  pub entity : IsEntity p e x
  pub plain : ByLiteral p e false
  pub local : x.linkage ≡ Local

-- its function has linkage
pub record HasOwner (p : Program) (x : Entity) : Type 0 where
  pub function : ℕ
  pub owner : x.owner ≡ Some function
  pub entity : Entity
  pub entity_is : IsEntity p function entity
  pub linked : entity.linkage ≢ Local

-- identifiers, and where they stand; a local has one, and a function that is defined has linkage
pub record AreEntities (p : Program) : Type 0 where
  pub letters : (e : ℕ) (x : Entity) → IsEntity p e x → IsMadeOf is_letter x.name
  pub unit : (e : ℕ) (x : Entity) → IsEntity p e x → x.unit < length p.names.items
  pub place : (e : ℕ) (x : Entity) → IsEntity p e x → IsPlace p x.place
  pub owned : (e : ℕ) (x : Entity) → IsLocalObject p e x → x.storage ≢ Declared → HasOwner p x
  pub word : (e : ℕ) (x : Entity) → IsLocalObject p e x → IsWord x.name
  pub linked : (e : ℕ) (x : Entity) → IsEntity p e x → x.storage ≡ FunctionBody → x.linkage ≢ Local

-- Objects and functions of external linkage are told apart by their names, those of internal linkage by unit and
-- name, locals by function, name, line and column, and literals by their places.
pub record AreToldApart (p : Program) : Type 0 where
  pub external : (e f : ℕ) (x y : Entity)
      → IsEntity p e x
      → IsEntity p f y
      → x.linkage ≡ External
      → y.linkage ≡ External
      → x.name ≡ y.name
      → e ≡ f
  pub internal : (e f : ℕ) (x y : Entity)
      → IsEntity p e x
      → IsEntity p f y
      → x.linkage ≡ Internal
      → y.linkage ≡ Internal
      → x.unit ≡ y.unit
      → x.name ≡ y.name
      → e ≡ f
  pub local : (e f : ℕ) (x y : Entity)
      → IsLocalObject p e x
      → IsLocalObject p f y
      → x.owner ≡ y.owner
      → x.name ≡ y.name
      → x.place.line ≡ y.place.line → x.place.column ≡ y.place.column → e ≡ f
  pub literal : (e f : ℕ) (x y : Entity)
      → IsEntity p e x
      → IsEntity p f y
      → ByLiteral p e true
      → ByLiteral p f true
      → x.place ≡ y.place
      → e ≡ f

abbrev pub IsText : NodeKind → Type 0
IsText (Text bytes) = ⊤
IsText kind = ⊥

-- string literals have different places, and so have calls
pub record AreNodes (p : Program) : Type 0 where
  pub place : (n : ℕ) (node : Node) → IsNode p n node → IsPlace p node.place
  pub text : (n m : ℕ) (x y : Node)
      → IsNode p n x
      → IsNode p m y
      → IsText x.kind
      → IsText y.kind
      → x.place ≡ y.place
      → n ≡ m
  pub call : (n m : ℕ) (x y : Node)
      → IsNode p n x
      → IsNode p m y
      → x.kind ≡ CallNode
      → y.kind ≡ CallNode
      → x.place ≡ y.place
      → n ≡ m

-- a program whose parts are told apart by their names and places
pub record HasNames (p : Program) : Type 0 where
  pub units : AreUnitNames p.names.items
  pub entities : AreEntities p
  pub apart : AreToldApart p
  pub nodes : AreNodes p
  pub members : (tag : ℕ) (members : List MemberTerm) → members_in p.types tag ≡ Some members → AreMembers members

-- the locations of such a program have distinct names
abbrev pub NamesDistinct : Type 0
NamesDistinct = (p : Program) → HasNames p → DistinctNames (locations_in p)
