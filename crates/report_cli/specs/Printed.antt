-- What is printed of a program, and what refuses a text that is read beside its units.
use Rattle.std.specs.Prelude.{◌≡◌, ◌⊎◌, ◌<◌, ◌≤◌, ◌^◌, ℕ, Bool, List, ◌++◌, Ok, Err, length, codes, decimal}
use Rattle.std.specs.Prelude.{if◌then◌else◌}
use Rattle.c_lexer.specs.Places.{line_of, column_of}
use Rattle.core_tree.specs.declared.node.Program.{Program}
use Rattle.sol_model.specs.declared.system.System.{System}
use Rattle.obj_space.specs.declared.location.Location.{Location}
use Rattle.unit_report.specs.unit_system.Of.{IsSystemOf}
use Rattle.unit_report.specs.Reported.{IsProgramReport}
use Rattle.gen_summary.specs.Summary.{IsProgramSummary}
use Rattle.side_reports.specs.effects_text.Effects.{IsProgramEffects}
use Rattle.side_reports.specs.stop_report.Text.{IsProgramStops}
use Rattle.unit_report.specs.unit_answers.Answered.{IsProgramAnswers, IsRefusedLine}
use Rattle.report_cli.specs.declared.form.Form.{Form}
use Rattle.report_cli.specs.declared.form.Form.TheVariants.{Report, Summary, Effects, Stops}
use Rattle.ref_state.specs.run_words.Words.{IsReading}
use Rattle.run_text.specs.RunText.{run_told}
use Rattle.text_units.specs.Answers.{NamedText, Answer, refusal, place_text}
use Rattle.text_units.specs.Alone.{malformed_at}
use Rattle.report_cli.specs.Told.{Side, no_side, with_questions, with_words}

-- bytes are the report of the least solution of a program's system, as JSON or as lines
unfoldable pub IsReport : Bool → Program → System → List ℕ → Type 0
IsReport json program system report =
    (space : List Location) × IsSystemOf program space system × IsProgramReport json program space system report

-- bytes are the summary of the generated program of a number, by the least solution of its system
unfoldable pub IsSummary : ℕ → Program → System → List ℕ → Type 0
IsSummary number program system text =
    (space : List Location) × IsSystemOf program space system × IsProgramSummary number space system text

-- bytes are what each function of a program may read and write, by the least solution of its system
unfoldable pub AreEffectsOf : Program → System → List ℕ → Type 0
AreEffectsOf program system text =
    (space : List Location) × IsSystemOf program space system × IsProgramEffects program space system text

-- bytes are the places where a run of a program may stop for a type, by the least solution of its system
unfoldable pub AreStopsOf : Program → System → List ℕ → Type 0
AreStopsOf program system text =
    (space : List Location) × IsSystemOf program space system × IsProgramStops program space system text

-- bytes are the report or the summary of a program, what its functions may read and write, or where it may stop
abbrev pub IsInForm : Form → Program → System → List ℕ → Type 0
IsInForm (Report json) program system text = IsReport json program system text
IsInForm (Summary number) program system text = IsSummary number program system text
IsInForm Effects program system text = AreEffectsOf program system text
IsInForm Stops program system text = AreStopsOf program system text

-- bytes are the answers to the questions of a script within the limit, as the least solution of a program's system
-- says
unfoldable pub AreAnswersTo : List ℕ → Program → System → List ℕ → Type 0
AreAnswersTo script program system answers =
    (length script ≤ 2 ^ 24)
    × ((space : List Location) × IsSystemOf program space system
    × IsProgramAnswers program space system script answers)

-- bytes are the text of a program's run of at most so many steps, which takes the words in a text within the limit; the
-- status is 11 where a step stopped, and else 0
pub record IsRun (steps : ℕ) (words : List ℕ) (program : Program) (system : System) (text : List ℕ)
    (status : ℕ) : Type 0 where
  pub short : length words ≤ 2 ^ 24
  pub space : List Location
  pub system_of : IsSystemOf program space system
  pub numbers : List ℕ
  pub reading : IsReading 0 words (Ok numbers)
  pub text_is : text ≡ (run_told program numbers steps).text
  pub status_is : status ≡ (if (run_told program numbers steps).stopped then 11 else 0)

-- bytes are what is printed of a program, with that status: the answers to a script of questions, the text of a run, or
-- else the report, as JSON or as lines, the summary, what functions may read and write, or where a run may stop
abbrev pub IsPrinted : Form → Side → Program → System → List ℕ → ℕ → Type 0
IsPrinted form no_side program system text status = IsInForm form program system text × (status ≡ 0)
IsPrinted form (with_questions script) program system text status =
    AreAnswersTo script.1 program system text × (status ≡ 0)
IsPrinted form (with_words steps words) program system text status =
    IsRun steps words.1 program system text status

-- the refusal of a script, or of the words of a run, that is over the limit
pub record IsLongScript (script : NamedText) (answer : Answer) : Type 0 where
  pub long : 2 ^ 24 < length script.1
  pub answer_is : answer ≡ refusal 6 (script.0 ++ codes ": too large text 16777217")

-- the refusal of a script within the limit for its first line that asks nothing, by the number of the line
pub record HasRefusedLine (program : Program) (space : List Location) (system : System) (script : NamedText)
    (answer : Answer) : Type 0 where
  pub short : length script.1 ≤ 2 ^ 24
  pub number : ℕ
  pub line : IsRefusedLine program space system script.1 number
  pub answer_is : answer ≡ refusal 10 (codes "question " ++ decimal number)

-- the refusal of a script on a program
abbrev pub IsRefusedScript : Program → List Location → System → NamedText → Answer → Type 0
IsRefusedScript program space system script answer =
    IsLongScript script answer ⊎ HasRefusedLine program space system script answer

-- the refusal of the words of a run within the limit, at the first byte from which on they aren't numbers below 2^64
-- and white space
pub record HasRefusedByte (words : NamedText) (answer : Answer) : Type 0 where
  pub short : length words.1 ≤ 2 ^ 24
  pub at : ℕ
  pub reading : IsReading 0 words.1 (Err at)
  pub answer_is : answer ≡ malformed_at (place_text words.0 (line_of words.1 at) (column_of words.1 at))

-- the refusal of the words of a run
abbrev pub AreRefusedWords : NamedText → Answer → Type 0
AreRefusedWords words answer = IsLongScript words answer ⊎ HasRefusedByte words answer

-- the refusal of what is read beside the units of a program
abbrev pub IsRefusedSide : Side → Program → List Location → System → Answer → Type 0
IsRefusedSide no_side program space system answer = ⊥
IsRefusedSide (with_questions script) program space system answer =
    IsRefusedScript program space system script answer
IsRefusedSide (with_words steps words) program space system answer = AreRefusedWords words answer
