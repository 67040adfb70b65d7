-- Nodes that name what is in range.
use Rattle.std.specs.Prelude.{ℕ, ◌≡◌, ◌<◌, List, Some, slice_get, All, IfSome}
use Rattle.core_tree.specs.declared.node.Node.{Node}
use Rattle.core_tree.specs.Range.{named_by, listed_by}

-- each node's children come before it, and it names entities below a count alone
pub record IsNamed (entities n : ℕ) (node : Node) : Type 0 where
  pub children : All (λ c. c < n) node.children
  pub named : IfSome (named_by node.kind) (λ e. e < entities)
  pub listed : All (λ e. e < entities) (listed_by node.kind)

pub record AreNamed (entities : ℕ) (nodes : List Node) : Type 0 where
  pub each : (n : ℕ) (node : Node) → slice_get nodes n ≡ Some node → IsNamed entities n node
