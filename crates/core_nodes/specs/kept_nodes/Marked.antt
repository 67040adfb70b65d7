-- Which of the nodes from a number on stand under a node.
use Rattle.std.specs.Prelude.{ℕ, ◌≡◌, ◌+◌, ◌-◌, ◌<◌, ◌≤◌, ◌⊎◌, Bool, true, false, List, length, get_or, slice_get}
use Rattle.std.specs.Prelude.{Some, All}
use Rattle.core_tree.specs.declared.node.Node.{Node}
use Rattle.core_tree.specs.Range.{child_in}

abbrev pub ChildrenFirst : List Node → Type 0
ChildrenFirst nodes = (n : ℕ) (node : Node) → slice_get nodes n ≡ Some node → All (λ c. c < n) node.children

-- a node is a child of another one
abbrev pub ChildIn : List Node → ℕ → ℕ → Type 0
ChildIn nodes parent child = (k : ℕ) × (child_in (slice_get nodes parent) k ≡ Some child)

abbrev pub marked : List Bool → ℕ → Type 0
marked marks k = get_or marks k false ≡ true

-- one of the first so many children
abbrev pub IsAmong : ℕ → List ℕ → ℕ → Type 0
IsAmong child children count = (j : ℕ) × (j < count) × (get_or children j 0 ≡ child)

-- the first so many children that have at least the number are marked as well, and nothing else
pub record Marks (from : ℕ) (old new : List Bool) (children : List ℕ) (count : ℕ) : Type 0 where
  pub long : length new ≡ length old
  pub kept : (k : ℕ) → marked old k → marked new k
  pub all : (j : ℕ) → j < count → from ≤ get_or children j 0 → marked new (get_or children j 0 - from)
  pub only : (k : ℕ) → marked new k → marked old k ⊎ IsAmong (from + k) children count

-- the children of a marked node are marked
abbrev pub IsClosedAt : List Node → ℕ → List Bool → ℕ → Type 0
IsClosedAt nodes from marks i =
    (node : Node)
    → slice_get nodes (from + i) ≡ Some node
    → marked marks i
    → (j : ℕ)
    → j < length node.children
    → from ≤ get_or node.children j 0
    → marked marks (get_or node.children j 0 - from)

-- of each marked node the children are marked
pub record IsClosed (nodes : List Node) (from : ℕ) (marks : List Bool) : Type 0 where
  pub long : from + length marks ≡ length nodes
  pub closed : (i : ℕ) → i < length marks → IsClosedAt nodes from marks i

-- a marked node is the top, or a child of a marked one
abbrev pub IsReached : List Node → ℕ → ℕ → List Bool → ℕ → Type 0
IsReached nodes from top marks i =
    (from + i ≡ top) ⊎ ((p : ℕ) × marked marks p × ChildIn nodes (from + p) (from + i))

-- the marks behind all nodes from a number on
pub record AreMarked (nodes : List Node) (from top : ℕ) (marks : List Bool) : Type 0 where
  pub long : from + length marks ≡ length nodes
  pub highest : marked marks (top - from)
  pub closed : (i : ℕ) → i < length marks → IsClosedAt nodes from marks i
  pub reached : (i : ℕ) → marked marks i → IsReached nodes from top marks i
