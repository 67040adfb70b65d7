-- Numbers of nodes and entities in range, and which nodes stand under which.
use Rattle.std.specs.Prelude.{ℕ, ◌≡◌, ◌<◌, List, [], Option, Some, None, IfSome, slice_get, length, All}
use Rattle.core_tree.specs.declared.node.Node.{Node}
use Rattle.core_tree.specs.declared.node.Entity.{Entity}
use Rattle.core_tree.specs.declared.node.NodeKind.{NodeKind}
use Rattle.core_tree.specs.declared.node.NodeKind.TheVariants.{Named, FunctionName, Literal, VarArgs, Block, For}
use Rattle.core_tree.specs.declared.node.NodeKind.TheVariants.{Initialise}
use Rattle.core_tree.specs.Typed.{CoreTrees}
pub use Rattle.core_tree.specs.Rows.{Has}

abbrev pub node_at : CoreTrees → ℕ → Option Node
node_at u n = slice_get u.nodes n

abbrev pub entity_at : CoreTrees → ℕ → Option Entity
entity_at u e = slice_get u.entities e

-- a fact of each node with its number
abbrev pub EachNode : CoreTrees → (ℕ → Node → Type 0) → Type 0
EachNode u P = (n : ℕ) (node : Node) → node_at u n ≡ Some node → P n node

-- a fact of each entity with its number
abbrev pub EachEntity : CoreTrees → (ℕ → Entity → Type 0) → Type 0
EachEntity u P = (e : ℕ) (entity : Entity) → entity_at u e ≡ Some entity → P e entity

-- a fact of some node with its number
abbrev pub SomeNode : CoreTrees → (ℕ → Node → Type 0) → Type 0
SomeNode u P = (n : ℕ) × (node : Node) × (node_at u n ≡ Some node) × P n node

-- a fact of some entity with its number
abbrev pub SomeEntity : CoreTrees → (ℕ → Entity → Type 0) → Type 0
SomeEntity u P = (e : ℕ) × (entity : Entity) × (entity_at u e ≡ Some entity) × P e entity

abbrev pub child_in : Option Node → ℕ → Option ℕ
child_in None k = None
child_in (Some n) k = slice_get n.children k

-- child k of node n
abbrev pub child_at : CoreTrees → ℕ → ℕ → Option ℕ
child_at u n k = child_in (node_at u n) k

abbrev pub IsChild : CoreTrees → ℕ → ℕ → Type 0
IsChild u parent child = (k : ℕ) × (child_at u parent k ≡ Some child)

-- a node stands under another one, or is that one
pub data Under (u : CoreTrees) (top : ℕ) : ℕ → Type 0 where
  here : Under u top top
  below : {parent child : ℕ} → Under u top parent → IsChild u parent child → Under u top child

-- the entity that a kind names
abbrev pub named_by : NodeKind → Option ℕ
named_by (Named e) = Some e
named_by (FunctionName e) = Some e
named_by (Literal e) = Some e
named_by (VarArgs e) = Some e
named_by (Initialise e paths) = Some e
named_by kind = None

-- the entities that a kind lists
abbrev pub listed_by : NodeKind → List ℕ
listed_by (Block es) = es
listed_by (For es c a) = es
listed_by kind = []

-- every type, entity and node that is named is in range, and children come first
pub record InRange (u : CoreTrees) : Type 0 where
  pub types : (n : ℕ) (node : Node) → node_at u n ≡ Some node → node.ty.0 < length u.types.terms
  pub children : (n : ℕ) (node : Node) → node_at u n ≡ Some node → All (λ c. c < n) node.children
  pub entities : (n : ℕ) (node : Node)
      → node_at u n ≡ Some node
      → IfSome (named_by node.kind) (λ e. e < length u.entities)
  pub lists : (n : ℕ) (node : Node)
      → node_at u n ≡ Some node
      → All (λ e. e < length u.entities) (listed_by node.kind)
  pub entity_types : (e : ℕ) (entity : Entity) → entity_at u e ≡ Some entity → entity.ty.0 < length u.types.terms
  pub owners : (e : ℕ) (entity : Entity)
      → entity_at u e ≡ Some entity
      → IfSome entity.owner (λ f. f < length u.entities)
  pub bodies : (e : ℕ) (entity : Entity)
      → entity_at u e ≡ Some entity
      → IfSome entity.body (λ b. b < length u.nodes)

-- a node is a child at most once
abbrev pub ChildOnce : CoreTrees → Type 0
ChildOnce u =
    (a b i j c : ℕ) → child_at u a i ≡ Some c → child_at u b j ≡ Some c → (a ≡ b) × (i ≡ j)

-- a list has the number in one place at most
abbrev pub OncePlaced : List ℕ → ℕ → Type 0
OncePlaced list x = (i j : ℕ) → slice_get list i ≡ Some x → slice_get list j ≡ Some x → i ≡ j

-- of the lists of nodes, no other one has the number
abbrev pub OnlyHolder : CoreTrees → (Node → List ℕ) → ℕ → ℕ → Type 0
OnlyHolder u list x a = EachNode u (λ b other. Has (list other) x → a ≡ b)

-- if the node's list has the number, it has it once, and no other list has it
pub record HoldsOnce (u : CoreTrees) (list : Node → List ℕ) (x a : ℕ) (node : Node) : Type 0 where
  pub places : Has (list node) x → OncePlaced (list node) x
  pub others : Has (list node) x → OnlyHolder u list x a

-- of the lists of nodes, one at most has the number, and once
pub record OnceHeld (u : CoreTrees) (list : Node → List ℕ) (x : ℕ) : Type 0 where
  pub each : EachNode u (λ a node. HoldsOnce u list x a node)

-- the entities that a node lists
abbrev pub listed_in : Node → List ℕ
listed_in node = listed_by node.kind
