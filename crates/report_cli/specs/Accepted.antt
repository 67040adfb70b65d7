-- What is told is accepted: the units, within the limits, and what is read beside them.
use Rattle.std.specs.Prelude.{◌≤◌, ◌^◌, ⊤, ℕ, List, Ok, length}
use Rattle.core_tree.specs.declared.node.Program.{Program}
use Rattle.sol_model.specs.declared.system.System.{System}
use Rattle.obj_space.specs.declared.location.Location.{Location}
use Rattle.obj_space.specs.Space.{locations_in}
use Rattle.obj_space.specs.View.{view_of}
use Rattle.constraints.specs.System.{IsWithin}
use Rattle.unit_report.specs.unit_system.Of.{IsSystemOf}
use Rattle.alias_query.specs.declared.answers.Question.{Question}
use Rattle.alias_query.specs.Script.{lines_of}
use Rattle.alias_query.specs.Asked.{AreAsked}
use Rattle.unit_report.specs.unit_answers.Answered.{setting_of}
use Rattle.text_units.specs.Answers.{NamedText}
use Rattle.ref_state.specs.run_words.Words.{IsReading}
use Rattle.report_cli.specs.Told.{Side, no_side, with_questions, with_words, Told}
use Rattle.report_cli.specs.Outcome.{Denotes}

-- a script within the limit, each line of which is empty or asks a question of a program
pub record IsTakenScript (program : Program) (space : List Location) (system : System)
    (script : NamedText) : Type 0 where
  pub short : length script.1 ≤ 2 ^ 24
  pub questions : List Question
  pub asked : AreAsked (setting_of program space system) (lines_of script.1) questions

-- words of a run within the limit: numbers below 2^64 and white space
pub record AreTakenWords (words : NamedText) : Type 0 where
  pub short : length words.1 ≤ 2 ^ 24
  pub numbers : List ℕ
  pub reading : IsReading 0 words.1 (Ok numbers)

-- a program takes what is read beside its units
abbrev pub TakesSide : Program → Side → Type 0
TakesSide program no_side = ⊤
TakesSide program (with_questions script) =
    (space : List Location) (system : System) → IsSystemOf program space system
    → IsTakenScript program space system script
TakesSide program (with_words steps words) = AreTakenWords words

-- The units denote a program within the limits of nodes and of words of rows, and each that they denote takes what is
-- read beside them.
pub record AreAccepted (told : Told) : Type 0 where
  pub program : Program
  pub denoted : Denotes told.entries told.units program
  pub within : IsWithin program (view_of (locations_in program))
  pub side : (other : Program) → Denotes told.entries told.units other → TakesSide other told.side
