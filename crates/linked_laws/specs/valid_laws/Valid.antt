-- Programs that are linked from valid units.
use Rattle.std.specs.Prelude.{ℕ, List}
use Rattle.c_types.specs.Made.{IsMade, AreNamed}
use Rattle.core_tree.specs.declared.node.Unit.{Unit}
use Rattle.core_tree.specs.declared.node.Program.{Program}
use Rattle.core_tree.specs.Valid.{ValidProgram}
use Rattle.unit_link.specs.Linked.{LinkedAt}
use Rattle.unit_link.specs.Needs.{AreLinkable}
use Rattle.linked_laws.specs.Ranges.{HasTypes}
use Rattle.linked_laws.specs.merged_laws.Merged.{AreTables}
use Rattle.link_model.specs.filled_units.Filled.{AreFilled}

-- a program that is linked from valid units, in which each initialiser is the body of an object that its unit
-- defines
abbrev pub LinkedValid : Type 0
LinkedValid =
    (names : List (List ℕ)) (units : List Unit) (p : Program)
    → AreLinkable units
    → AreTables units
    → AreFilled units
    → LinkedAt names units p
    → HasTypes p
    → IsMade p.types
    → AreNamed p.types
    → ValidProgram p
