-- Values in linked programs.
use Rattle.std.specs.Prelude.{ℕ, ◌≡◌, List, Some, slice_get}
use Rattle.core_tree.specs.declared.node.Unit.{Unit}
use Rattle.core_tree.specs.declared.node.Program.{Program}
use Rattle.core_tree.specs.declared.node.Node.{Node}
use Rattle.core_tree.specs.declared.node.NodeKind.TheVariants.{CallNode}
use Rattle.core_tree.specs.Typed.{ValueNode, trees_in, sort_at}
use Rattle.unit_link.specs.Linked.{LinkedAt}
use Rattle.unit_link.specs.Needs.{AreLinkable}

-- a call's callee and its arguments are values
pub record AreCallsOfValues (p : Program) : Type 0 where
  pub each : (n : ℕ) (node : Node) → slice_get p.nodes.items n ≡ Some node → node.kind ≡ CallNode
      → (k c : ℕ) → slice_get node.children k ≡ Some c → sort_at (trees_in p) c ≡ ValueNode

abbrev pub LinkedCalls : Type 0
LinkedCalls =
    (names : List (List ℕ)) (units : List Unit) (p : Program)
    → AreLinkable units
    → LinkedAt names units p
    → AreCallsOfValues p
