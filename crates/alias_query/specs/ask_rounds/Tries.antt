-- What an asker leaves.
use Rattle.std.specs.Prelude.{◌≡◌, ℕ, ◌<◌, true, ⊤, List, Some, length, slice_get}
use Rattle.sol_model.specs.declared.system.System.{System}
use Rattle.sol_model.specs.Families.{Family}
use Rattle.sol_model.specs.Solutions.{IsLeast}
use Rattle.set_rows.specs.declared.view.View.{View}
use Rattle.set_rows.specs.Views.{OnlyAsked}
use Rattle.alias_query.specs.declared.answers.Question.{Question}
use Rattle.alias_query.specs.declared.answers.Answer.{Answer}
use Rattle.alias_query.specs.declared.answers.Answer.TheVariants.{Yes, No, NotYet}
use Rattle.alias_query.specs.Answers.{AnswerOf, IsDenied}

-- an answer that was found, while the sets grow or after, is that of the least solution; an open one says nothing
abbrev pub Holds : System → Question → Answer → Type 0
Holds S question Yes = (F : Family) → IsLeast S F → AnswerOf S F question
Holds S question No = IsDenied S question
Holds S question NotYet = ⊤

-- the answers of questions so far
pub record AreHeld (S : System) (questions : List Question) (answers : List Answer) : Type 0 where
  pub count : length answers ≡ length questions
  pub each : (i : ℕ) (question : Question) (answer : Answer)
      → slice_get questions i ≡ Some question
      → slice_get answers i ≡ Some answer
      → Holds S question answer

-- none of the first so many answers is open
abbrev pub NoneOpen : List Answer → ℕ → Type 0
NoneOpen answers n = (i : ℕ) → i < n → slice_get answers i ≡ Some NotYet → ⊥

-- the seat has only asked; where it knew that the table is closed and had read it so, that is what it read last
pub record HasAsked (v w : View) : Type 0 where
  pub asked : OnlyAsked v w
  pub last : v.knows ≡ true → v.last ≡ 1 → w.last ≡ 1
