-- What is asked of one node and of one entity.
use Rattle.std.specs.Prelude.{◌≡◌, ℕ, ◌<◌, List, slice_get, Option, Some, None, IfSome, length, All}
use Rattle.core_tree.specs.declared.node.Node.{Node}
use Rattle.core_tree.specs.declared.node.Entity.{Entity}
use Rattle.core_tree.specs.Typed.{CoreTrees}
use Rattle.core_tree.specs.Range.{EachNode, EachEntity, named_by, listed_by, InRange, ChildOnce}
use Rattle.core_tree.specs.Linkages.{NodeLinkage}
use Rattle.core_tree.specs.Valid.{InRow, IsInOwner, IsLiteral, IsListable, HoldsFixed, MayStand, FitsFunctions}
use Rattle.core_tree.specs.Valid.{CaseDiffers, ValueSized, IsOwned, HasBody, IsListed, IsUsed, EntitySized}
use Rattle.core_tree.specs.Valid.{ResultSized, IsSigned, HasLength, InUnits, IsEntryAt}
use Rattle.type_rules.specs.Sizes.{TagsHaveSizes}

-- what a node names is in range, and its children come first
pub record NodeInRange (u : CoreTrees) (n : ℕ) (node : Node) : Type 0 where
  pub ty : node.ty.0 < length u.types.terms
  pub children : All (λ c. c < n) node.children
  pub entity : IfSome (named_by node.kind) (λ e. e < length u.entities)
  pub list : All (λ e. e < length u.entities) (listed_by node.kind)

-- what an entity names is in range
pub record EntityInRange (u : CoreTrees) (entity : Entity) : Type 0 where
  pub ty : entity.ty.0 < length u.types.terms
  pub owner : IfSome entity.owner (λ f. f < length u.entities)
  pub body : IfSome entity.body (λ b. b < length u.nodes)

-- the node stands where it may
pub record NodeStands (u : CoreTrees) (n : ℕ) (node : Node) : Type 0 where
  pub row : InRow u node
  pub owner : IsInOwner u n node.kind
  pub literal : IsLiteral u n node.kind
  pub lists : All (λ e. IsListable u n e) (listed_by node.kind)
  pub stands : MayStand u n node.kind

-- the node holds what it may
pub record NodeHolds (u : CoreTrees) (n : ℕ) (node : Node) : Type 0 where
  pub fixed : HoldsFixed u node.kind node.children
  pub functions : FitsFunctions u n node
  pub case : CaseDiffers u n node.kind
  pub sized : ValueSized u node

pub record NodeRight (u : CoreTrees) (n : ℕ) (node : Node) : Type 0 where
  pub stands : NodeStands u n node
  pub holds : NodeHolds u n node

abbrev pub NodeRightIn : CoreTrees → ℕ → Option Node → Type 0
NodeRightIn u n None = ⊥
NodeRightIn u n (Some node) = NodeRight u n node

pub record EntityRight (u : CoreTrees) (e : ℕ) (entity : Entity) : Type 0 where
  pub owned : IsOwned u entity.storage entity.owner
  pub bodied : HasBody u e entity entity.body
  pub listed : IsListed u e entity
  pub used : IsUsed u e entity.used
  pub sized : EntitySized u entity
  pub result : ResultSized u entity

abbrev pub EntityRightIn : CoreTrees → ℕ → Option Entity → Type 0
EntityRightIn u e None = ⊥
EntityRightIn u e (Some entity) = EntityRight u e entity

-- the node has the linkages that it may have
abbrev pub NodeLinkageIn : CoreTrees → Option Node → Type 0
NodeLinkageIn u None = ⊥
NodeLinkageIn u (Some node) = NodeLinkage u node

pub record NodesRight (u : CoreTrees) : Type 0 where
  pub each : EachNode u (λ n node. NodeRight u n node)

pub record EntitiesRight (u : CoreTrees) : Type 0 where
  pub each : EachEntity u (λ e entity. EntityRight u e entity)

-- all that is asked, in the order in which it is tested
pub record Checked (u : CoreTrees) : Type 0 where
  pub range : InRange u
  pub once : ChildOnce u
  pub tags : TagsHaveSizes u.types
  pub nodes : NodesRight u
  pub entities : EntitiesRight u

-- what is asked of an entity of a linked program alone
pub record EntityLinked (u : CoreTrees) (units : ℕ) (entity : Entity) : Type 0 where
  pub signature : IsSigned u entity
  pub sized : HasLength u entity
  pub within : InUnits units entity

pub record EntitiesLinked (u : CoreTrees) (units : ℕ) : Type 0 where
  pub each : EachEntity u (λ e entity. EntityLinked u units entity)

pub record NodesLinked (u : CoreTrees) (units : ℕ) : Type 0 where
  pub each : EachNode u (λ n node. node.place.unit < units)

-- a program may be entered at the entity of that number
pub record IsEntered (u : CoreTrees) (e : ℕ) : Type 0 where
  pub entry : IsEntryAt u e

pub record EntriesLinked (u : CoreTrees) (entries : List ℕ) : Type 0 where
  pub each : (k e : ℕ) → slice_get entries k ≡ Some e → IsEntered u e

pub record Linked (u : CoreTrees) (units : ℕ) (entered : List ℕ) : Type 0 where
  pub entities : EntitiesLinked u units
  pub nodes : NodesLinked u units
  pub entries : EntriesLinked u entered
