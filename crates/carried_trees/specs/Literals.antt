-- The compound literals of a tree, and the numbers of their entities.
use Rattle.std.specs.Prelude.{ℕ, suc, ◌≡◌, ◌+◌, ◌<◌, ◌≤◌, ◌==◌, ◌||◌, Bool, true, false, List, [], ◌∷◌, length}
use Rattle.std.specs.Prelude.{slice_get, Option, Some, None, is_some, if◌then◌else◌}
use Rattle.core_tree.specs.declared.node.Node.{Node}
use Rattle.core_tree.specs.declared.node.NodeKind.{NodeKind}
use Rattle.core_tree.specs.declared.node.NodeKind.TheVariants.{Literal}
use Rattle.core_tree.specs.declared.node.Unit.{Unit}
use Rattle.c_types.specs.Trees.{Ctype}
use Rattle.c_consts.specs.Core.{Core, Cores, Of, NoCores, MoreCores}
use Rattle.core_nodes.specs.Standing.{core_at}
use Rattle.carried_trees.specs.Carried.{carried_core, is_given_core}

-- whether a kind is that of the compound literal of a leaf
abbrev pub is_literal : ℕ → NodeKind → Bool
is_literal leaf (Literal e) = e == leaf
is_literal leaf kind = false

-- whether the compound literal of a leaf stands in a tree
abbrev mutual
  pub has_literal : Core → ℕ → Bool
  has_literal (Of kind place type under) leaf = is_literal leaf kind || have_literal under leaf

  pub have_literal : Cores → ℕ → Bool
  have_literal NoCores leaf = false
  have_literal (MoreCores c rest) leaf = has_literal c leaf || have_literal rest leaf

-- Compound literals are listed by their leaves and their nodes. They have the numbers from one on, in the order of
-- the list.
abbrev pub literal_number : ℕ → List (ℕ × ℕ) → ℕ → Option ℕ
literal_number first [] leaf = None
literal_number first (l ∷ rest) leaf = if l.0 == leaf then Some first else literal_number (suc first) rest leaf

-- each one is listed once
abbrev pub EachOnce : ℕ → List (ℕ × ℕ) → Type 0
EachOnce first list =
    (k : ℕ) (l : ℕ × ℕ) → slice_get list k ≡ Some l → literal_number first list l.0 ≡ Some (first + k)

-- the nodes stand in order
abbrev pub AreRising : List (ℕ × ℕ) → Type 0
AreRising list = (j k : ℕ) (l m : ℕ × ℕ) → j < k → slice_get list j ≡ Some l → slice_get list k ≡ Some m → l.1 < m.1

-- a node behind so many makes the object of a compound literal
pub record IsLiteralNode (u : Unit) (from at entity : ℕ) : Type 0 where
  pub behind : from ≤ at
  pub node : Node
  pub there : slice_get u.nodes.items at ≡ Some node
  pub kind : node.kind ≡ Literal entity

-- those of a tree, and no others, have the numbers from one on, each its own, in the order of their nodes, which
-- stand behind so many
pub record AreLiterals (core : Core) (from first : ℕ) (u : Unit) (list : List (ℕ × ℕ)) : Type 0 where
  pub own : (leaf : ℕ) → is_some (literal_number first list leaf) ≡ has_literal core leaf
  pub once : EachOnce first list
  pub nodes : (k : ℕ) (l : ℕ × ℕ) → slice_get list k ≡ Some l → IsLiteralNode u from l.1 (first + k)
  pub rising : AreRising list

-- a tree stands in a unit, carried, where entities have numbers, and its compound literals the next ones after the
-- unit's entities
pub record IsTree (entity : ℕ → Option ℕ) (tag : ℕ → Option Ctype) (core : Core) (old new : Unit) (i : ℕ)
    (list : List (ℕ × ℕ)) : Type 0 where
  pub given : is_given_core entity (has_literal core) tag core ≡ true
  pub carried : core_at new i ≡ carried_core entity (literal_number (length old.entities.items) list) tag core
  pub literals : AreLiterals core (length old.nodes.items) (length old.entities.items) new list

-- one of the first so many nodes is that of the compound literal
pub record IsFound (nodes : List Node) (from count : ℕ) (l : ℕ × ℕ) : Type 0 where
  pub place : ℕ
  pub few : place < count
  pub at : l.1 ≡ from + place
  pub node : Node
  pub there : slice_get nodes place ≡ Some node
  pub kind : node.kind ≡ Literal l.0

-- the compound literals among the first so many nodes, each at its first node, where nodes are counted from a
-- number on
pub record AreFound (nodes : List Node) (from first count : ℕ) (list : List (ℕ × ℕ)) : Type 0 where
  pub all : (m : ℕ) (node : Node) (leaf : ℕ)
      → m < count
      → slice_get nodes m ≡ Some node
      → node.kind ≡ Literal leaf
      → is_some (literal_number first list leaf) ≡ true
  pub each : (k : ℕ) (l : ℕ × ℕ) → slice_get list k ≡ Some l → IsFound nodes from count l
  pub once : EachOnce first list
  pub rising : AreRising list
