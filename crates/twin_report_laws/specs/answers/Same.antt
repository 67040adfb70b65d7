-- Answers to a script on systems that are one, but for numbers.
use Rattle.std.specs.Prelude.{ℕ, ◌≡◌, List, length}
use Rattle.sol_model.specs.Families.{Family}
use Rattle.sol_model.specs.Solutions.{IsLeast}
use Rattle.sol_model.specs.Systems.{IsValid, location_count}
use Rattle.obj_space.specs.Space.{DistinctNames}
use Rattle.alias_query.specs.declared.answers.Question.{Question}
use Rattle.alias_query.specs.declared.answers.Answer.{Answer}
use Rattle.alias_query.specs.Asked.{Setting, IsCallAt, AreAsked}
use Rattle.alias_query.specs.ask_rounds.Said.{AreAnswers, answers_text}
use Rattle.twin_report_laws.specs.reports.Same.{AreOneSystem, SameNames}

-- each place, as a script writes it, has one call at most
pub record CallsTold (setting : Setting) : Type 0 where
  pub once : (word : List ℕ) (c d : ℕ)
      → IsCallAt setting.system.calls setting.names word c
      → IsCallAt setting.system.calls setting.names word d
      → c ≡ d

-- settings with the same names of locations, all of them different, the same names of units, and systems that are one
pub record AreAskedAlike (one other : Setting) : Type 0 where
  pub spaces : SameNames one.space other.space
  pub distinct : DistinctNames one.space
  pub units : other.names ≡ one.names
  pub systems : AreOneSystem one.system other.system
  pub told : CallsTold one

-- the answers to a script, as the least solution of a valid system says
pub record IsAnswered (setting : Setting) (lines : List (List ℕ)) (text : List ℕ) : Type 0 where
  pub valid : IsValid setting.system
  pub count : length setting.space ≡ location_count setting.system
  pub family : Family
  pub least : IsLeast setting.system family
  pub questions : List Question
  pub asked : AreAsked setting lines questions
  pub answers : List Answer
  pub answered : AreAnswers setting.system family questions answers
  pub text_is : text ≡ answers_text answers

-- such settings have one text of answers to a script
abbrev pub OneText : Type 0
OneText =
    (one other : Setting) (lines : List (List ℕ)) (text again : List ℕ)
    → AreAskedAlike one other
    → IsAnswered one lines text
    → IsAnswered other lines again
    → again ≡ text
