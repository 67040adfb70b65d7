-- Numbers in linked programs.
use Rattle.std.specs.Prelude.{ℕ, ◌≡◌, ◌<◌, List, Some, length, slice_get}
use Rattle.core_tree.specs.declared.node.Unit.{Unit}
use Rattle.core_tree.specs.declared.node.Program.{Program}
use Rattle.core_tree.specs.declared.node.Node.{Node}
use Rattle.core_tree.specs.declared.node.Entity.{Entity}
use Rattle.core_tree.specs.Typed.{trees_in}
use Rattle.core_tree.specs.Range.{InRange}
use Rattle.unit_link.specs.Linked.{LinkedAt}
use Rattle.unit_link.specs.Needs.{AreLinkable}

-- the type of each node and entity stands in the table
pub record HasTypes (p : Program) : Type 0 where
  pub nodes : (n : ℕ) (node : Node) → slice_get p.nodes.items n ≡ Some node → node.ty.0 < length p.types.terms
  pub entities : (e : ℕ) (entity : Entity)
      → slice_get p.entities.items e ≡ Some entity
      → entity.ty.0 < length p.types.terms

abbrev pub LinkedRange : Type 0
LinkedRange =
    (names : List (List ℕ)) (units : List Unit) (p : Program)
    → AreLinkable units
    → LinkedAt names units p
    → HasTypes p
    → InRange (trees_in p)
