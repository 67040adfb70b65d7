-- The answers to a script on a program.
use Rattle.std.specs.Prelude.{◌≡◌, ◌⊎◌, ℕ, List}
use Rattle.core_tree.specs.declared.node.Program.{Program}
use Rattle.sol_model.specs.declared.system.System.{System}
use Rattle.sol_model.specs.Families.{Family}
use Rattle.sol_model.specs.Solutions.{IsLeast}
use Rattle.obj_space.specs.declared.location.Location.{Location}
use Rattle.alias_query.specs.declared.answers.Question.{Question}
use Rattle.alias_query.specs.declared.answers.Answer.{Answer}
use Rattle.alias_query.specs.Script.{lines_of, IsBad}
use Rattle.alias_query.specs.Asked.{Setting, made_setting, AreAsked, IsFirst, IsNameless}
use Rattle.alias_query.specs.ask_rounds.Said.{AreAnswers, answers_text}

-- what the script of a program's questions is read with
abbrev pub setting_of : Program → List Location → System → Setting
setting_of p space system = made_setting space system p.names.items

-- a text has the answers to the questions of a script, as the least solution of a program's system says
pub record IsProgramAnswers (p : Program) (space : List Location) (system : System)
    (script text : List ℕ) : Type 0 where
  pub family : Family
  pub least : IsLeast system family
  pub questions : List Question
  pub asked : AreAsked (setting_of p space system) (lines_of script) questions
  pub answers : List Answer
  pub answered : AreAnswers system family questions answers
  pub text_is : text ≡ answers_text answers

-- the line of this number, from 1, is the script's first one that isn't in the grammar or names nothing of the
-- right sort
abbrev pub IsRefusedLine : Program → List Location → System → List ℕ → ℕ → Type 0
IsRefusedLine p space system script number =
    IsFirst (setting_of p space system) (lines_of script) number IsBad
    ⊎ IsFirst (setting_of p space system) (lines_of script) number (IsNameless (setting_of p space system))
