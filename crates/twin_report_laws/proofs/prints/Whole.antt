-- Programs whose systems are one have one report, and one text of answers.
use Rattle.std.proofs.Common.{ℕ, Bool, List, sym, ◌∙◌, subst}
use Rattle.core_tree.specs.declared.node.Program.{Program}
use Rattle.sol_model.specs.declared.system.System.{System}
use Rattle.obj_space.specs.declared.location.Location.{Location}
use Rattle.obj_space.specs.Space.{DistinctNames, locations_in}
use Rattle.alias_query.specs.Asked.{made_setting}
use Rattle.alias_query.specs.Script.{lines_of}
use Rattle.unit_report.specs.unit_system.Of.{IsSystemOf}
use Rattle.unit_report.specs.Reported.{IsProgramReport}
use Rattle.unit_report.specs.unit_answers.Answered.{IsProgramAnswers}
use Rattle.twin_report_laws.specs.reports.Same.{SameNames, Printed}
use Rattle.twin_report_laws.proofs.reports.Whole.{one_report as one_report_of}
use Rattle.twin_report_laws.specs.answers.Same.{CallsTold, IsAnswered}
use Rattle.twin_report_laws.proofs.answers.Whole.{one_text as one_text_of}
use Rattle.twin_report_laws.specs.prints.Prints.{AreOnePrint, OneReport, OneText}

abbrev printed : (json : Bool) (p : Program) (space : List Location) (system : System) (text : List ℕ) → IsProgramReport json p space system text → Printed
printed json p space system text r = record { space = space; names = r.names; system = system; family = r.family }

pub spaces_same : (p q : Program) (space more : List Location) (one other : System) → IsSystemOf p space one → IsSystemOf q more other → AreOnePrint p q one other → SameNames space more
spaces_same p q space more one other s z alike =
    subst (λ (spaces : List Location). SameNames spaces more) (sym s.space_is) (subst (λ (spaces : List Location). SameNames (locations_in p) spaces) (sym z.space_is) alike.spaces)

pub one_report : OneReport
one_report json p q space more one other text again s z alike apart r t =
    one_report_of json (printed json p space one text r) (printed json q more other again t) text again
    (record { valid = s.valid; least = r.least; count = s.count })
    (record { valid = z.valid; least = t.least; count = z.count })
    (record {
      spaces = spaces_same p q space more one other s z alike;
      units = t.names_are ∙ (alike.units ∙ sym r.names_are);
      systems = alike.systems;
      apart = apart;
    })
    r.report t.report

answered : (p : Program) (space : List Location) (system : System) (script text : List ℕ) → IsSystemOf p space system → IsProgramAnswers p space system script text
    → IsAnswered (made_setting space system p.names.items) (lines_of script) text
answered p space system script text s r = record {
  valid = s.valid;
  count = s.count;
  family = r.family;
  least = r.least;
  questions = r.questions;
  asked = r.asked;
  answers = r.answers;
  answered = r.answered;
  text_is = r.text_is;
}

pub one_text : OneText
one_text p q space more one other script text again s z alike distinct told r t =
    one_text_of (made_setting space one p.names.items) (made_setting more other q.names.items) (lines_of script) text again
    (record {
      spaces = spaces_same p q space more one other s z alike;
      distinct = subst (λ (spaces : List Location). DistinctNames spaces) (sym s.space_is) distinct;
      units = alike.units;
      systems = alike.systems;
      told = subst (λ (spaces : List Location). CallsTold (made_setting spaces one p.names.items)) (sym s.space_is) told;
    })
    (answered p space one script text s r) (answered q more other script again z t)
