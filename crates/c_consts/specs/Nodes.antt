-- The nodes among which constants are looked for.
use Rattle.std.specs.Prelude.{ℕ, ◌≡◌, ⊤, List, [], Some, slice_get}
use Rattle.c_types.specs.Table.{Table, type_of}
use Rattle.core_tree.specs.declared.node.Node.{Node}
use Rattle.core_tree.specs.declared.node.NodeKind.{NodeKind}
use Rattle.core_tree.specs.declared.node.NodeKind.TheVariants.{Number, Choose, Convert, Arith}
use Rattle.core_tree.specs.Typed.{CoreTrees}
use Rattle.core_tree.specs.Rows.{RowOf}
use Rattle.core_tree.specs.Range.{Under}
use Rattle.c_consts.specs.Core.{InOrder}

-- types and nodes without entities
abbrev pub bare : Table → List Node → CoreTrees
bare types nodes = record { types = types; nodes = nodes; entities = [] }

-- the kinds of which a constant is made: their rows name no entity
abbrev pub IsConstantKind : NodeKind → Type 0
IsConstantKind (Number n) = ⊤
IsConstantKind (Arith op) = ⊤
IsConstantKind Choose = ⊤
IsConstantKind Convert = ⊤
IsConstantKind kind = ⊥

-- nodes over nodes of smaller numbers, and each of those kinds in its row
pub record AreRows (types : Table) (nodes : List Node) : Type 0 where
  pub order : InOrder types nodes
  pub rows : (n : ℕ) (node : Node)
      → slice_get nodes n ≡ Some node
      → IsConstantKind node.kind
      → RowOf (bare types nodes) node.kind (type_of types node.ty.0) node.children

-- the nodes under one, and that one, stand in their rows where they are of those kinds
abbrev pub RowsUnder : Table → List Node → ℕ → Type 0
RowsUnder types nodes top =
    (n : ℕ) (node : Node)
    → Under (bare types nodes) top n
    → slice_get nodes n ≡ Some node
    → IsConstantKind node.kind
    → RowOf (bare types nodes) node.kind (type_of types node.ty.0) node.children

-- nodes over nodes of smaller numbers, and each of those kinds under one in its row
pub record AreRowsUnder (types : Table) (nodes : List Node) (top : ℕ) : Type 0 where
  pub order : InOrder types nodes
  pub rows : RowsUnder types nodes top
