-- What a function returns.
use Rattle.std.specs.Prelude.{ℕ, ◌≡◌, List, [], ◌∷◌, Some, slice_get}
use Rattle.c_types.specs.Table.{type_of}
use Rattle.type_rules.specs.Conversions.{result_of}
use Rattle.core_tree.specs.declared.node.Unit.{Unit}
use Rattle.core_tree.specs.declared.node.Program.{Program}
use Rattle.core_tree.specs.declared.node.Node.{Node}
use Rattle.core_tree.specs.declared.node.Entity.{Entity}
use Rattle.core_tree.specs.declared.node.NodeKind.TheVariants.{Return}
use Rattle.core_tree.specs.Typed.{IsValue, trees_in}
use Rattle.core_tree.specs.Valid.{IsAround}
use Rattle.unit_link.specs.Linked.{LinkedAt}
use Rattle.unit_link.specs.Needs.{AreLinkable}

-- what a return in a function's body gives is a value of the function's result type
pub record HasReturns (p : Program) : Type 0 where
  pub each : (n : ℕ) (node : Node) (v : ℕ) (f : ℕ) (function : Entity)
      → slice_get p.nodes.items n ≡ Some node
      → node.kind ≡ Return
      → node.children ≡ v ∷ []
      → slice_get p.entities.items f ≡ Some function
      → IsAround (trees_in p) n function
      → IsValue (trees_in p) v (result_of (type_of p.types function.ty.0))

abbrev pub LinkedReturns : Type 0
LinkedReturns =
    (names : List (List ℕ)) (units : List Unit) (p : Program)
    → AreLinkable units
    → LinkedAt names units p
    → HasReturns p
