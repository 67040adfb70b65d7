-- Nodes of one unit behind those of another.
use Rattle.std.specs.Prelude.{ℕ, ◌≡◌, ◌+◌, ◌<◌, Bool, true, false, ◌&&◌, List, [], ◌∷◌, map, All, length, get_or}
use Rattle.std.specs.Prelude.{slice_get, Some, Option, is_some}
use Rattle.c_types.specs.Trees.{Ctype}
use Rattle.core_tree.specs.declared.node.Node.{Node}
use Rattle.core_tree.specs.declared.node.Unit.{Unit}
use Rattle.core_nodes.specs.Standing.{core_at}
use Rattle.carried_trees.specs.Carried.{carried_kind, carried_core, is_given_core}

-- whether all of some nodes are flagged
abbrev pub all_flagged : List Bool → List ℕ → Bool
all_flagged flags [] = true
all_flagged flags (i ∷ rest) = get_or flags i false && all_flagged flags rest

-- a node is another one, carried, over nodes behind a number
pub record IsMoved (entity own : ℕ → Option ℕ) (from : ℕ) (x : Node) (o : Option Node) : Type 0 where
  pub node : Node
  pub there : o ≡ Some node
  pub kind : node.kind ≡ carried_kind entity own x.kind
  pub children : node.children ≡ map (λ c. from + c) x.children

-- the first so many nodes of a unit stand behind the nodes of another from a number on, carried
pub record AreCarried (entity own : ℕ → Option ℕ) (tag : ℕ → Option Ctype) (old : Unit) (from count : ℕ)
    (flags : List Bool) (new : Unit) : Type 0 where
  pub long : length flags ≡ count
  pub nodes : length new.nodes.items ≡ from + count
  pub trees : (j : ℕ) → j < count → core_at new (from + j) ≡ carried_core entity own tag (core_at old j)
  pub given_are : (j : ℕ)
      → j < count
      → get_or flags j false ≡ is_given_core entity (λ e. is_some (own e)) tag (core_at old j)
  pub moved : (j : ℕ) (x : Node)
      → j < count
      → slice_get old.nodes.items j ≡ Some x
      → IsMoved entity own from x (slice_get new.nodes.items (from + j))

-- the types of nodes are among so many
abbrev pub AreTyped : ℕ → List Node → Type 0
AreTyped count nodes = (i : ℕ) (node : Node) → slice_get nodes i ≡ Some node → node.ty.0 < count

-- each node stands behind its children
abbrev pub AreBehind : List Node → Type 0
AreBehind nodes = (i : ℕ) (node : Node) → slice_get nodes i ≡ Some node → All (λ c. c < i) node.children
