-- Objects that are initialised, in linked programs (C11 6.9.2).
use Rattle.std.specs.Prelude.{ℕ, List}
use Rattle.core_tree.specs.declared.node.Unit.{Unit}
use Rattle.core_tree.specs.declared.node.Program.{Program}
use Rattle.unit_link.specs.Linked.{LinkedAt}
use Rattle.unit_link.specs.Needs.{AreLinkable}
use Rattle.link_model.specs.filled_units.Filled.{AreFilled}
use Rattle.linked_laws.specs.system_laws.item_laws.Items.{ArePlaced}

abbrev pub LinkedPlaced : Type 0
LinkedPlaced =
    (names : List (List ℕ)) (units : List Unit) (p : Program)
    → AreLinkable units
    → AreFilled units
    → LinkedAt names units p
    → ArePlaced p
