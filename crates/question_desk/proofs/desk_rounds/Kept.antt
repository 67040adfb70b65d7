-- What stays while questions are tried.
use Rattle.std.proofs.Common.{◌≡◌, ℕ, ◌+◌, ◌<◌, List, Some, length, slice_get, replicate, true}
use Rattle.std.specs.Prelude.{slice_set}
use Rattle.sol_model.specs.declared.system.System.{System}
use Rattle.set_rows.specs.declared.view.View.{View}
use Rattle.alias_query.specs.declared.answers.Question.{Question}
use Rattle.alias_query.specs.declared.answers.Answer.{Answer}
use Rattle.alias_query.specs.declared.answers.Answer.TheVariants.{NotYet}
use Rattle.alias_query.specs.Answers.{IsAnswer}
use Rattle.alias_query.specs.ask_rounds.Tries.{AreHeld, HasAsked, Holds, NoneOpen}
use Rattle.alias_query.proofs.ask_rounds.Keeping.{asked_nothing, asked_again, asked_one, settled_one, held_more, none_more}
use Rattle.alias_query.proofs.ask_rounds.Answering.{held_first}

pub nothing : (v : View) → HasAsked v v
nothing v = asked_nothing v

pub again : (u v w : View) → HasAsked u v → HasAsked v w → HasAsked u w
again u v w one two = asked_again u v w one two

pub one_asked : (S : System) (v w : View) (question : Question) (answer : Answer) → IsAnswer S v w question answer → HasAsked v w
one_asked S v w question answer h = asked_one S v w question answer h

pub one_settled : (S : System) (v w : View) (question : Question) (answer : Answer) → IsAnswer S v w question answer → v.knows ≡ true → answer ≡ NotYet → ⊥
one_settled S v w question answer h k unsettled = settled_one S v w question answer h k unsettled

pub more_held : (S : System) (questions : List Question) (answers : List Answer) (i : ℕ) (question : Question) (answer : Answer)
    → slice_get questions i ≡ Some question → i < length answers
    → Holds S question answer → AreHeld S questions answers → AreHeld S questions (slice_set answers i answer)
more_held S questions answers i question answer at within holds held = held_more S questions answers i question answer at within holds held

pub more_settled : (answers : List Answer) (i : ℕ) (answer : Answer) → i < length answers → (answer ≡ NotYet → ⊥) → NoneOpen answers i
    → NoneOpen (slice_set answers i answer) (i + 1)
more_settled answers i answer within settled before = none_more answers i answer within settled before

pub first_held : (S : System) (questions : List Question) → AreHeld S questions (replicate (length questions) NotYet)
first_held S questions = held_first S questions
