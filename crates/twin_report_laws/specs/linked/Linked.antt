-- What is printed of programs that are linked from units which are alike.
use Rattle.std.specs.Prelude.{ℕ, ◌≡◌, Bool, List}
use Rattle.core_tree.specs.declared.node.Unit.{Unit}
use Rattle.core_tree.specs.declared.node.Program.{Program}
use Rattle.sol_model.specs.declared.system.System.{System}
use Rattle.link_merge.specs.Tags.{AreMade}
use Rattle.link_model.specs.filled_units.Filled.{AreFilled}
use Rattle.unit_link.specs.Needs.{AreLinkable}
use Rattle.linked_laws.specs.alike_laws.Plain.{DefinePlain}
use Rattle.obj_space.specs.declared.location.Location.{Location}
use Rattle.linked_laws.specs.location_laws.named_laws.Units.{AreNamedUnits}
use Rattle.unit_report.specs.unit_system.Of.{IsProgramOf, IsSystemOf}
use Rattle.unit_report.specs.Reported.{IsProgramReport}
use Rattle.unit_report.specs.unit_answers.Answered.{IsProgramAnswers}
use Rattle.gen_summary.specs.Summary.{IsProgramSummary}
use Rattle.twin_report_laws.specs.outcome_laws.twin_programs.One.{AreOne}
use Rattle.twin_report_laws.specs.apart.Apart.{AreUnitsApart}

-- what is known of units that are right for texts of distinct names
pub record AreKnown (units : List Unit) : Type 0 where
  pub linkable : AreLinkable units
  pub tables : AreMade units
  pub filled : AreFilled units
  pub apart : AreUnitsApart units
  pub plain : DefinePlain units

-- a program of such units with entries of those names, its locations and its system
pub record IsOf (entered : List (List ℕ)) (units : List Unit) (p : Program) (space : List Location)
    (system : System) : Type 0 where
  pub known : AreKnown units
  pub program : IsProgramOf entered units p
  pub system_of : IsSystemOf p space system

-- programs of such units that are one, but for numbers, have one report, as lines and as JSON
abbrev pub OneReport : Type 0
OneReport =
    (entered : List (List ℕ)) (json : Bool) (us vs : List Unit) (p q : Program) (space more : List Location)
    (one other : System) (text again : List ℕ)
    → AreOne p q
    → IsOf entered us p space one
    → IsOf entered vs q more other
    → IsProgramReport json p space one text
    → IsProgramReport json q more other again → again ≡ text

-- and one text of answers to a script, where names keep the parts of the units apart
abbrev pub OneText : Type 0
OneText =
    (entered : List (List ℕ)) (us vs : List Unit) (p q : Program) (space more : List Location) (one other : System)
    (script text again : List ℕ)
    → AreOne p q
    → AreNamedUnits us
    → IsOf entered us p space one
    → IsOf entered vs q more other
    → IsProgramAnswers p space one script text
    → IsProgramAnswers q more other script again → again ≡ text

-- and one summary
abbrev pub OneSummary : Type 0
OneSummary =
    (entered : List (List ℕ)) (number : ℕ) (us vs : List Unit) (p q : Program) (space more : List Location)
    (one other : System) (text again : List ℕ)
    → AreOne p q
    → IsOf entered us p space one
    → IsOf entered vs q more other
    → IsProgramSummary number space one text
    → IsProgramSummary number more other again → again ≡ text
