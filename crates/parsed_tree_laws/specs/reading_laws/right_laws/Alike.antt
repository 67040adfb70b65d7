-- Units that are alike, but for the numbers of their entities and nodes.
use Rattle.std.specs.Prelude.{ℕ, ◌≡◌, ◌<◌, ⊤, List, length, slice_get, Option, Some, None}
use Rattle.c_types.specs.Table.{type_of, members_in}
use Rattle.core_tree.specs.declared.node.Entity.{Entity}
use Rattle.core_tree.specs.declared.node.Unit.{Unit}
use Rattle.core_tree.specs.Typed.{trees_of}
use Rattle.core_tree.specs.Valid.{EachNode, EachEntity, entity_at}
use Rattle.c_consts.specs.Core.{Core}
use Rattle.c_inits.specs.Tables.{parts_in}
use Rattle.c_senses.specs.Tree.{Source}
use Rattle.c_senses.specs.Right.{Numbering, StandsBy, Right}

-- the numbers of what is declared at one leaf
pub record ArePaired (one other : Numbering) (e f : ℕ) : Type 0 where
  pub leaf : ℕ
  pub first : one leaf ≡ Some e
  pub second : other leaf ≡ Some f

-- no owner, or owners that are paired
abbrev pub SameOwners : Numbering → Numbering → Option ℕ → Option ℕ → Type 0
SameOwners one other None None = ⊤
SameOwners one other (Some e) (Some f) = ArePaired one other e f
SameOwners one other a b = ⊥

-- nodes of two units that stand for one tree
pub record AreTrees (one other : Numbering) (u v : Unit) (i j : ℕ) : Type 0 where
  pub tree : Core
  pub first : StandsBy one u i tree
  pub second : StandsBy other v j tree

-- no body, or bodies that are one tree
abbrev pub SameBodies : Numbering → Numbering → Unit → Unit → Option ℕ → Option ℕ → Type 0
SameBodies one other u v None None = ⊤
SameBodies one other u v (Some i) (Some j) = AreTrees one other u v i j
SameBodies one other u v a b = ⊥

-- an entity is the same in both, but for numbers
pub record SameEntity (one other : Numbering) (u v : Unit) (x y : Entity) : Type 0 where
  pub name : x.name ≡ y.name
  pub unit_is : x.unit ≡ y.unit
  pub place : x.place ≡ y.place
  pub type : type_of u.types x.ty.0 ≡ type_of v.types y.ty.0
  pub linkage : x.linkage ≡ y.linkage
  pub storage : x.storage ≡ y.storage
  pub owner : SameOwners one other x.owner y.owner
  pub body : SameBodies one other u v x.body y.body
  pub used : x.used ≡ y.used

-- entity e has its like in v
pub record HasLike (one other : Numbering) (u v : Unit) (e : ℕ) (x : Entity) : Type 0 where
  pub number : ℕ
  pub entity : Entity
  pub paired : ArePaired one other e number
  pub stands : entity_at (trees_of v) number ≡ Some entity
  pub same : SameEntity one other u v x entity

-- node i has its like in v
pub record HasTree (one other : Numbering) (u v : Unit) (i : ℕ) : Type 0 where
  pub number : ℕ
  pub trees : AreTrees one other u v i number

-- no two leaves have one number
abbrev pub NumbersOnce : Numbering → Type 0
NumbersOnce n = (c d e : ℕ) → n c ≡ Some e → n d ≡ Some e → c ≡ d

-- what one unit has, the other has too
pub record HasAll (one other : Numbering) (u v : Unit) : Type 0 where
  pub entities : EachEntity (trees_of u) (λ e x. HasLike one other u v e x)
  pub nodes : EachNode (trees_of u) (λ i node. HasTree one other u v i)

-- the same tags with their keys, and the same entities and nodes, as many of them, but for their numbers
pub record AreAlike (u v : Unit) : Type 0 where
  pub named : u.name ≡ v.name
  pub tags : u.types.tags ≡ v.types.tags
  pub members : (t : ℕ)
      → t < u.types.tags
      → parts_in u.types (members_in u.types t) ≡ parts_in v.types (members_in v.types t)
  pub keys : (t : ℕ) → t < u.types.tags → slice_get u.tags.items t ≡ slice_get v.tags.items t
  pub entity_count : length u.entities.items ≡ length v.entities.items
  pub node_count : length u.nodes.items ≡ length v.nodes.items
  pub one : Numbering
  pub other : Numbering
  pub one_once : NumbersOnce one
  pub other_once : NumbersOnce other
  pub forth : HasAll one other u v
  pub back : HasAll other one v u

abbrev pub RightAlike : Type 0
RightAlike = (s : Source) (name : List ℕ) (u v : Unit) → Right s name u → Right s name v → AreAlike u v
