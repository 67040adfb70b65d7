-- What is told of a program by the system with one row for each class of rows.
use Rattle.std.proofs.Common.{◌≡◌, ℕ, Bool, List, All, String, Global, map, string_bytes, length, sym, ap, subst, arith}
use Rattle.core_tree.specs.declared.node.Program.{Program}
use Rattle.sol_model.specs.declared.system.System.{System}
use Rattle.sol_model.specs.Families.{Family}
use Rattle.sol_model.specs.Solutions.{IsLeast}
use Rattle.sol_model.specs.Systems.{IsValid, location_count}
use Rattle.obj_space.specs.declared.location.Location.{Location}
use Rattle.alias_query.specs.declared.answers.Question.{Question}
use Rattle.alias_query.specs.declared.answers.Answer.{Answer}
use Rattle.alias_query.specs.Answers.{IsKnown}
use Rattle.alias_query.specs.Asked.{AreAsked}
use Rattle.alias_query.specs.Script.{lines_of}
use Rattle.alias_query.specs.ask_rounds.Said.{AreAnswers, answers_text}
use Rattle.row_share.specs.share_laws.Renumbering.{new_row}
use Rattle.row_share.proofs.share_laws.Forward.{IsRenumbered, over}
use Rattle.row_share.proofs.share_laws.Leasts.{gives_least}
use Rattle.unit_report.specs.declared.solving.Solved.{Solved}
use Rattle.unit_report.specs.unit_system.Of.{IsSystemOf}
use Rattle.unit_report.specs.unit_answers.Answered.{setting_of, IsProgramAnswers}
use Rattle.unit_report.specs.Reported.{IsProgramReport, IsReportAs}
use Rattle.unit_report.specs.Solved.{IsSolved, IsShared, IsSolvedShared}
use Rattle.unit_report.proofs.SharedReport.{report_as_same}
use Rattle.unit_report.proofs.SharedAnswers.{asked_are, all_known, answers_same}

renumbered : (S T : System) → IsValid S → (shared : IsShared S T) → IsRenumbered S T (new_row shared.row)
renumbered S T valid shared = record {
  valid = valid;
  locations = shared.reduced.locations;
  types = shared.reduced.types;
  calls = shared.reduced.calls;
  functions = shared.reduced.functions;
  fixed = shared.reduced.numbers.locations;
}

pub shared_count : (S T : System) → IsShared S T → location_count T ≡ location_count S
shared_count S T shared = ap length shared.reduced.locations

pub solved_shared : (S T : System) (solved : Solved) → IsShared S T → IsSolved T solved → IsSolvedShared S solved
solved_shared S T solved shared done = record {
  shared = subst (λ (U : System). IsShared S U) (sym done.system_is) shared;
  solved = subst (λ (U : System). IsSolved U solved) (sym done.system_is) done;
}

pub program_report : (json : Bool) (p : Program) (space : List Location) (S T : System) (G : Family) (names : List (String Global)) (text : List ℕ) → IsSystemOf p space S → IsShared S T → IsLeast T G
    → map string_bytes names ≡ p.names.items → IsReportAs json space names T G text → IsProgramReport json p space S text
program_report json p space S T G names text made shared least names_are report = record {
  family = over G (new_row shared.row);
  least = gives_least S T shared.of shared.row made.valid shared.classes shared.reduced G least;
  names = names;
  names_are = names_are;
  report = report_as_same S T (new_row shared.row) (renumbered S T made.valid shared) G json space names text made.count report;
}

pub known_shared : (p : Program) (space : List Location) (S T : System) (script : List ℕ) (questions : List Question) → IsSystemOf p space S → IsShared S T → AreAsked (setting_of p space S) (lines_of script) questions
    → All (IsKnown S) questions → All (IsKnown T) questions
known_shared p space S T script questions made shared asked known =
    all_known S T (new_row shared.row) (renumbered S T made.valid shared) (let r = shared.reduced.rows in omega arith) questions known (asked_are space S p.names.items made.count (lines_of script) questions asked)

pub program_answers : (p : Program) (space : List Location) (S T : System) (G : Family) (script text : List ℕ) (questions : List Question) (answers : List Answer) → IsSystemOf p space S → IsShared S T → IsLeast T G
    → AreAsked (setting_of p space S) (lines_of script) questions → AreAnswers T G questions answers → text ≡ answers_text answers → IsProgramAnswers p space S script text
program_answers p space S T G script text questions answers made shared least asked answered text_is = record {
  family = over G (new_row shared.row);
  least = gives_least S T shared.of shared.row made.valid shared.classes shared.reduced G least;
  questions = questions;
  asked = asked;
  answers = answers;
  answered = answers_same S T (new_row shared.row) (renumbered S T made.valid shared) G questions answers (asked_are space S p.names.items made.count (lines_of script) questions asked) answered;
  text_is = text_is;
}
