-- What answers say, and how they are written.
use Rattle.std.specs.Prelude.{◌≡◌, ℕ, List, [], ◌++◌, Some, length, slice_get, codes}
use Rattle.std.specs.List.{flat_map}
use Rattle.sol_model.specs.declared.system.System.{System}
use Rattle.sol_model.specs.Families.{Family}
use Rattle.alias_query.specs.declared.answers.Question.{Question}
use Rattle.alias_query.specs.declared.answers.Answer.{Answer}
use Rattle.alias_query.specs.declared.answers.Answer.TheVariants.{Yes, No, NotYet}
use Rattle.alias_query.specs.Answers.{AnswerOf}

-- the answer to a question is what the family says
abbrev pub Says : System → Family → Question → Answer → Type 0
Says S F question Yes = AnswerOf S F question
Says S F question No = AnswerOf S F question → ⊥
Says S F question NotYet = ⊥

-- one answer for each question, in order: yes or no, as the family says
pub record AreAnswers (S : System) (F : Family) (questions : List Question) (answers : List Answer) : Type 0 where
  pub count : length answers ≡ length questions
  pub each : (i : ℕ) (question : Question) (answer : Answer)
      → slice_get questions i ≡ Some question
      → slice_get answers i ≡ Some answer
      → Says S F question answer

-- the line of an answer
abbrev pub line_of : Answer → List ℕ
line_of Yes = codes "yes\n"
line_of No = codes "no\n"
line_of NotYet = []

-- answers as text
abbrev pub answers_text : List Answer → List ℕ
answers_text answers = codes "ask 1\n" ++ (flat_map line_of answers ++ codes "end\n")
