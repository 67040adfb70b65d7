-- A node of a unit that the rows make once.
use Rattle.std.specs.Prelude.{ℕ, ◌≡◌, ◌<◌, ◌≤◌, true, is_some, List, Some, length, slice_get, ◌⊎◌, All}
use Rattle.pta_base.specs.declared.place.Place.{Place}
use Rattle.core_tree.specs.declared.node.Unit.{Unit}
use Rattle.core_tree.specs.declared.node.Node.{Node}
use Rattle.core_tree.specs.declared.node.NodeKind.{NodeKind}
use Rattle.core_tree.specs.declared.node.Entity.{Entity}
use Rattle.core_tree.specs.declared.node.Storage.TheVariants.{FunctionBody}
use Rattle.core_tree.specs.Typed.{trees_of}
use Rattle.core_tree.specs.Rows.{Initialises}
use Rattle.core_tree.specs.Range.{IsChild, entity_at}
use Rattle.c_senses.specs.Tree.{Source}
use Rattle.c_senses.specs.Sense.{Sense, sense_in}
use Rattle.c_senses.specs.Entities.{is_defined}
use Rattle.c_senses.specs.Rows.{AreSenses}
use Rattle.c_senses.specs.Right.{Numbering, SameKind, Declared, declared_name, representative, block_for}
use Rattle.c_senses.specs.Right.{IsDeclaredAt, IsEntityOf, InitialisesOnce, IsBody}
use Rattle.parsed_tree_laws.specs.family_laws.Families.{Families}
use Rattle.parsed_tree_laws.specs.span_laws.Spans.{Spanned}
use Rattle.core_node_laws.specs.count_laws.count_rows.Counts.{Count, own_weight}
use Rattle.core_node_laws.specs.count_laws.Counting.{sum_below, Makes}

-- two definitions with one block declare one name
pub record BlocksDiffer (s : Source) (senses : List Sense) : Type 0 where
  pub once : (c d b : ℕ) (what other : Declared)
      → declared_name s senses c ≡ Some what
      → declared_name s senses d ≡ Some other
      → what.storage ≡ FunctionBody
      → other.storage ≡ FunctionBody
      → is_defined s (sense_in senses) (representative s senses c) ≡ true
      → is_defined s (sense_in senses) (representative s senses d) ≡ true
      → block_for s senses (representative s senses c) ≡ Some b
      → block_for s senses (representative s senses d) ≡ Some b
      → c ≡ d

-- what is asked of a unit that is made of the senses of a whole tree: its entities are those that are declared, its
-- nodes are their bodies and what stands under them, each initialiser is its entity's body, and bodies are those of
-- functions or initialisers
pub record IsLaid (s : Source) (senses : List Sense) (numbering : Numbering) (u : Unit) : Type 0 where
  pub are_senses : AreSenses s senses
  pub whole : length senses ≡ length s.nodes
  pub entity_once : (c d e : ℕ) → numbering c ≡ Some e → numbering d ≡ Some e → c ≡ d
  pub each_declared : (d : ℕ) (what : Declared) → IsDeclaredAt s senses d what
      → (e : ℕ) × (entity : Entity) × (numbering d ≡ Some e) × (entity_at (trees_of u) e ≡ Some entity)
      × IsEntityOf numbering u s.unit what entity
  pub no_other_entity : (e : ℕ)
      → e < length u.entities.items
      → (d : ℕ) × (what : Declared) × IsDeclaredAt s senses d what × (numbering d ≡ Some e)
  pub initialises_once : InitialisesOnce u
  pub no_other_node : (i : ℕ) → i < length u.nodes.items → IsBody u i ⊎ ((p : ℕ) × IsChild (trees_of u) p i)
  pub children_first : (n : ℕ) (node : Node)
      → slice_get u.nodes.items n ≡ Some node
      → All (λ c. c < n) node.children
  pub bodies : (e b : ℕ) (entity : Entity)
      → entity_at (trees_of u) e ≡ Some entity
      → entity.body ≡ Some b
      → (entity.storage ≡ FunctionBody) ⊎ Initialises (trees_of u) b e
  pub blocks : BlocksDiffer s senses

-- a weight of nodes, where the initialisers of named objects are bodies of their own
abbrev pub apart_from_names : Source → List Sense → (NodeKind → Place → ℕ) → Count
apart_from_names s senses weight = record { weight = weight; leaves_out = λ e. is_some (declared_name s senses e) }

-- each tree that may stand at the node has a top that counts
abbrev pub Weighs : Source → List Sense → Numbering → (NodeKind → Place → ℕ) → Node → Type 0
Weighs s senses numbering weight node =
    (kind : NodeKind) (place : Place)
    → SameKind numbering kind node.kind
    → node.place ≡ place
    → 1 ≤ own_weight (apart_from_names s senses weight) kind place

-- where the rows make one such node at most, there is one at most in the unit
abbrev pub NodesOnce : Type 0
NodesOnce =
    (s : Source) (senses : List Sense) (numbering : Numbering) (u : Unit) (weight : NodeKind → Place → ℕ)
    (bound : ℕ → ℕ)
    → Spanned s
    → Families s
    → IsLaid s senses numbering u
    → Makes (apart_from_names s senses weight) s senses bound → sum_below bound (length s.nodes) ≤ 1
    → (x y : ℕ) (node other : Node)
    → slice_get u.nodes.items x ≡ Some node
    → slice_get u.nodes.items y ≡ Some other
    → Weighs s senses numbering weight node
    → Weighs s senses numbering weight other
    → x ≡ y
