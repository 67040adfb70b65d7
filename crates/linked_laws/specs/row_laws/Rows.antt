-- The rows of a linked program's nodes.
use Rattle.std.specs.Prelude.{ℕ, List}
use Rattle.c_types.specs.Made.{IsMade}
use Rattle.core_tree.specs.declared.node.Unit.{Unit}
use Rattle.core_tree.specs.declared.node.Program.{Program}
use Rattle.core_tree.specs.Typed.{trees_in}
use Rattle.core_tree.specs.Valid.{InRows, FixedStatics}
use Rattle.unit_link.specs.Linked.{LinkedAt}
use Rattle.unit_link.specs.Needs.{AreLinkable}
use Rattle.linked_laws.specs.merged_laws.Merged.{AreTables}
use Rattle.link_model.specs.filled_units.Filled.{AreFilled}

-- each node stands in its row, and what a static object is initialised with is fixed
pub record AreRowsRight (p : Program) : Type 0 where
  pub rows : InRows (trees_in p)
  pub fixed : FixedStatics (trees_in p)

abbrev pub LinkedInRows : Type 0
LinkedInRows =
    (names : List (List ℕ)) (units : List Unit) (p : Program)
    → AreLinkable units
    → AreTables units
    → AreFilled units
    → LinkedAt names units p
    → IsMade p.types
    → AreRowsRight p
