-- What is printed of programs whose systems are one, but for numbers.
use Rattle.std.specs.Prelude.{ℕ, ◌≡◌, Bool, List}
use Rattle.core_tree.specs.declared.node.Program.{Program}
use Rattle.sol_model.specs.declared.system.System.{System}
use Rattle.obj_space.specs.declared.location.Location.{Location}
use Rattle.obj_space.specs.Space.{DistinctNames, locations_in}
use Rattle.alias_query.specs.Asked.{made_setting}
use Rattle.unit_report.specs.unit_system.Of.{IsSystemOf}
use Rattle.unit_report.specs.Reported.{IsProgramReport}
use Rattle.unit_report.specs.unit_answers.Answered.{IsProgramAnswers}
use Rattle.twin_report_laws.specs.reports.Same.{AreOneSystem, SameNames, CallsApart}
use Rattle.twin_report_laws.specs.answers.Same.{CallsTold}

-- the same names of units and, in the same order, of locations, and systems that are one
pub record AreOnePrint (p q : Program) (one other : System) : Type 0 where
  pub units : q.names.items ≡ p.names.items
  pub spaces : SameNames (locations_in p) (locations_in q)
  pub systems : AreOneSystem one other

-- programs with such systems, where no two calls through pointers stand at one place, have one report
abbrev pub OneReport : Type 0
OneReport =
    (json : Bool) (p q : Program) (space more : List Location) (one other : System) (text again : List ℕ)
    → IsSystemOf p space one
    → IsSystemOf q more other
    → AreOnePrint p q one other
    → CallsApart one
    → IsProgramReport json p space one text
    → IsProgramReport json q more other again → again ≡ text

-- and one text of answers to a script, where locations have different names, and each place that the script may write
-- has one call at most
abbrev pub OneText : Type 0
OneText =
    (p q : Program) (space more : List Location) (one other : System) (script text again : List ℕ)
    → IsSystemOf p space one
    → IsSystemOf q more other
    → AreOnePrint p q one other
    → DistinctNames (locations_in p)
    → CallsTold (made_setting (locations_in p) one p.names.items)
    → IsProgramAnswers p space one script text
    → IsProgramAnswers q more other script again → again ≡ text
