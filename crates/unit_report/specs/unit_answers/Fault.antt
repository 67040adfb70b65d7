-- Why a script on a program has no answers.
use Rattle.std.specs.Prelude.{ℕ, ⊤, List}
use Rattle.core_tree.specs.declared.node.Program.{Program}
use Rattle.sol_model.specs.declared.system.System.{System}
use Rattle.obj_space.specs.declared.location.Location.{Location}
use Rattle.alias_query.specs.declared.answers.AskFault.{AskFault}
use Rattle.alias_query.specs.declared.answers.AskFault.TheVariants as ask
use Rattle.unit_report.specs.declared.unit_answers.fault.AnswersFault.{AnswersFault}
use Rattle.unit_report.specs.declared.unit_answers.fault.AnswersFault.TheVariants.{Question, OutOfMemory}
use Rattle.unit_report.specs.unit_answers.Answered.{IsRefusedLine}

-- the fault of a script's line, by the number of the line alone
abbrev pub fault_of : AskFault → AnswersFault
fault_of (ask.BadLine number) = Question number
fault_of (ask.NoName number) = Question number
fault_of ask.OutOfMemory = OutOfMemory

-- the first line at fault; want of memory says nothing of the script
abbrev pub IsAnswersFault : Program → List Location → System → List ℕ → AnswersFault → Type 0
IsAnswersFault p space system script (Question number) = IsRefusedLine p space system script number
IsAnswersFault p space system script OutOfMemory = ⊤
