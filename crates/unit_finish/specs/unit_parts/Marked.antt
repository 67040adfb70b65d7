-- Which nodes stand under some nodes.
use Rattle.std.specs.Prelude.{ℕ, ◌≡◌, ◌<◌, ◌⊎◌, Bool, List, length, get_or, slice_get, Some}
use Rattle.core_tree.specs.declared.node.Node.{Node}
use Rattle.core_nodes.specs.kept_nodes.Marked.{ChildIn, marked, IsAmong}

-- the first so many of a list of nodes are marked as well, and nothing else
pub record Marks (old new : List Bool) (list : List ℕ) (count : ℕ) : Type 0 where
  pub long : length new ≡ length old
  pub kept : (k : ℕ) → marked old k → marked new k
  pub all : (j : ℕ) → j < count → marked new (get_or list j 0)
  pub only : (k : ℕ) → marked new k → marked old k ⊎ IsAmong k list count

-- the children of a marked node are marked
abbrev pub IsClosedAt : List Node → List Bool → ℕ → Type 0
IsClosedAt nodes marks i =
    (node : Node)
    → slice_get nodes i ≡ Some node
    → marked marks i
    → (j : ℕ)
    → j < length node.children
    → marked marks (get_or node.children j 0)

-- a marked node is one of the tops, or a child of a marked one
abbrev pub IsReached : List Node → List ℕ → List Bool → ℕ → Type 0
IsReached nodes tops marks i = IsAmong i tops (length tops) ⊎ ((p : ℕ) × marked marks p × ChildIn nodes p i)

-- the marks behind the tops and all nodes under them
pub record AreMarked (nodes : List Node) (list : List ℕ) (marks : List Bool) : Type 0 where
  pub long : length marks ≡ length nodes
  pub tops : (j : ℕ) → j < length list → marked marks (get_or list j 0)
  pub closed : (i : ℕ) → IsClosedAt nodes marks i
  pub reached : (i : ℕ) → marked marks i → IsReached nodes list marks i
