-- Programs that are one, but for numbers, have as many locations, as many rows and as many words of rows.
use Rattle.std.specs.Prelude.{◌≡◌, ℕ, List, length}
use Rattle.c_types.specs.Made.{IsMade, AreNamed}
use Rattle.core_tree.specs.declared.node.Unit.{Unit}
use Rattle.core_tree.specs.declared.node.Program.{Program}
use Rattle.core_tree.specs.Typed.{trees_in}
use Rattle.core_tree.specs.Range.{InRange}
use Rattle.unit_link.specs.Linked.{LinkedAt}
use Rattle.obj_space.specs.Space.{locations_in}
use Rattle.obj_space.specs.View.{view_of}
use Rattle.row_numbers.specs.Setting.{row_total}
use Rattle.constraints.specs.System.{word_total}
use Rattle.twin_report_laws.specs.outcome_laws.fault_laws.Twins.{AreAllTwins}
use Rattle.twin_report_laws.specs.outcome_laws.twin_programs.One.{AreAllRooted, AreOne}

-- a table that was made, in which each term comes behind its types, and nodes and entities whose numbers are in range
pub record IsSound (p : Program) : Type 0 where
  pub made : IsMade p.types
  pub named : AreNamed p.types
  pub range : InRange (trees_in p)

abbrev pub AsManyLocations : Type 0
AsManyLocations =
    (p q : Program) → AreOne p q → IsSound p → IsSound q → length (locations_in p) ≡ length (locations_in q)

abbrev pub AsManyRows : Type 0
AsManyRows =
    (p q : Program)
    → AreOne p q
    → IsSound p
    → IsSound q
    → row_total (trees_in p) (view_of (locations_in p)) ≡ row_total (trees_in q) (view_of (locations_in q))

-- so two programs that are linked from units which are alike have as many words of rows
abbrev pub OneWordTotal : Type 0
OneWordTotal =
    (entered : List (List ℕ)) (us vs : List Unit) (p q : Program)
    → AreAllTwins us vs
    → AreAllRooted us
    → AreAllRooted vs
    → LinkedAt entered us p
    → LinkedAt entered vs q
    → IsSound p
    → IsSound q
    → word_total p (view_of (locations_in p)) ≡ word_total q (view_of (locations_in q))
