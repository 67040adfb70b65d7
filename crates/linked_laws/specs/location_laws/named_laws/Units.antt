-- Units whose parts are told apart by their names and places, and the programs of such units.
use Rattle.std.specs.Prelude.{ℕ, ◌≡◌, ◌≢◌, ◌<◌, ◌^◌, true, false, List, Some, slice_get}
use Rattle.pta_base.specs.declared.place.Place.{Place}
use Rattle.c_types.specs.declared.term.MemberTerm.{MemberTerm}
use Rattle.c_types.specs.Table.{members_in}
use Rattle.c_types.specs.Made.{IsMade, AreNamed}
use Rattle.core_tree.specs.declared.node.Unit.{Unit}
use Rattle.core_tree.specs.declared.node.Program.{Program}
use Rattle.core_tree.specs.declared.node.Node.{Node}
use Rattle.core_tree.specs.declared.node.NodeKind.TheVariants.{CallNode}
use Rattle.core_tree.specs.declared.node.Entity.{Entity}
use Rattle.core_tree.specs.declared.node.Linkage.TheVariants.{Internal, Local}
use Rattle.core_tree.specs.declared.node.Storage.TheVariants.{FunctionBody}
use Rattle.obj_made.specs.Uses.{is_literal}
use Rattle.obj_space.specs.Space.{DistinctNames, locations_in}
use Rattle.unit_link.specs.Linked.{LinkedAt}
use Rattle.unit_link.specs.Needs.{AreLinkable}
use Rattle.linked_laws.specs.location_laws.name_shapes.Bytes.{is_unit_byte, is_letter, IsMadeOf, IsWord}
use Rattle.linked_laws.specs.location_laws.name_laws.Named.{AreMembers, IsText, HasNames}

-- numbers of 32 bits
pub record IsNarrow (place : Place) : Type 0 where
  pub line : place.line < 2 ^ 32
  pub column : place.column < 2 ^ 32

-- an object without linkage that no compound literal makes
pub record IsLocalOf (x : Unit) (e : ℕ) (y : Entity) : Type 0 where
  pub entity : slice_get x.entities.items e ≡ Some y
  pub plain : is_literal x.nodes.items e ≡ false
  pub local : y.linkage ≡ Local

-- its function is defined in the unit, and has linkage
pub record HasFunction (x : Unit) (y : Entity) : Type 0 where
  pub function : ℕ
  pub owner : y.owner ≡ Some function
  pub entity : Entity
  pub entity_is : slice_get x.entities.items function ≡ Some entity
  pub body : entity.storage ≡ FunctionBody
  pub linked : entity.linkage ≢ Local

-- two places of one unit
pub record SamePlace (a b : Place) : Type 0 where
  pub line : a.line ≡ b.line
  pub column : a.column ≡ b.column

-- Entities have identifiers as names. Those of internal linkage have different names (C11 6.2.2p2), and objects
-- without linkage, literals among them, different places. A local has an identifier, and stands in a function that the
-- unit defines. What is defined as a function has linkage.
pub record AreUnitEntities (x : Unit) : Type 0 where
  pub letters : (e : ℕ) (y : Entity) → slice_get x.entities.items e ≡ Some y → IsMadeOf is_letter y.name
  pub place : (e : ℕ) (y : Entity) → slice_get x.entities.items e ≡ Some y → IsNarrow y.place
  pub owned : (e : ℕ) (y : Entity) → IsLocalOf x e y → HasFunction x y
  pub word : (e : ℕ) (y : Entity) → IsLocalOf x e y → IsWord y.name
  pub linked : (e : ℕ) (y : Entity)
      → slice_get x.entities.items e ≡ Some y
      → y.storage ≡ FunctionBody
      → y.linkage ≢ Local
  pub internal : (e f : ℕ) (y z : Entity)
      → slice_get x.entities.items e ≡ Some y
      → slice_get x.entities.items f ≡ Some z
      → y.linkage ≡ Internal
      → z.linkage ≡ Internal
      → y.name ≡ z.name
      → e ≡ f
  pub local : (e f : ℕ) (y z : Entity) → IsLocalOf x e y → IsLocalOf x f z → SamePlace y.place z.place → e ≡ f
  pub literal : (e f : ℕ) (y z : Entity)
      → slice_get x.entities.items e ≡ Some y
      → slice_get x.entities.items f ≡ Some z
      → is_literal x.nodes.items e ≡ true
      → is_literal x.nodes.items f ≡ true
      → SamePlace y.place z.place → e ≡ f

-- string literals have different places, and so have calls
pub record AreUnitNodes (x : Unit) : Type 0 where
  pub place : (n : ℕ) (node : Node) → slice_get x.nodes.items n ≡ Some node → IsNarrow node.place
  pub text : (n m : ℕ) (a b : Node)
      → slice_get x.nodes.items n ≡ Some a
      → slice_get x.nodes.items m ≡ Some b
      → IsText a.kind
      → IsText b.kind
      → SamePlace a.place b.place
      → n ≡ m
  pub call : (n m : ℕ) (a b : Node)
      → slice_get x.nodes.items n ≡ Some a
      → slice_get x.nodes.items m ≡ Some b
      → a.kind ≡ CallNode
      → b.kind ≡ CallNode
      → SamePlace a.place b.place
      → n ≡ m

-- a unit whose name has no ':', no '@' and no '*', and whose parts are told apart
pub record IsNamedUnit (x : Unit) : Type 0 where
  pub name : IsMadeOf is_unit_byte x.name
  pub entities : AreUnitEntities x
  pub nodes : AreUnitNodes x
  pub members : (tag : ℕ) (members : List MemberTerm) → members_in x.types tag ≡ Some members → AreMembers members

abbrev pub AreNamedUnits : List Unit → Type 0
AreNamedUnits units = (u : ℕ) (x : Unit) → slice_get units u ≡ Some x → IsNamedUnit x

-- the parts of a program of such units are told apart
abbrev pub LinkedNames : Type 0
LinkedNames =
    (entered : List (List ℕ)) (units : List Unit) (p : Program)
    → AreLinkable units
    → AreNamedUnits units
    → LinkedAt entered units p
    → IsMade p.types
    → AreNamed p.types
    → HasNames p

-- its locations have distinct names
abbrev pub LinkedDistinct : Type 0
LinkedDistinct =
    (entered : List (List ℕ)) (units : List Unit) (p : Program)
    → AreLinkable units
    → AreNamedUnits units
    → LinkedAt entered units p
    → IsMade p.types
    → AreNamed p.types
    → DistinctNames (locations_in p)
