-- What an answer on closed sets says.
use Rattle.std.proofs.Common.{◌≡◌, ◌↔◌, ℕ, ◌+◌, ◌<◌, Bool, true, true≢false, List, [], ◌∷◌, ◌++◌, length, take, get_or}
use Rattle.std.proofs.Common.{refl, sym, subst}
use Rattle.std.proofs.lemmas.List.{take_more}
use Rattle.set_rows.specs.declared.view.View.{View}
use Rattle.set_rows.specs.Views.{OnlyAsked}
use Rattle.alias_query.proofs.ask_rounds.Keeping.{asked_again}
use Rattle.sol_model.specs.declared.system.System.{System}
use Rattle.sol_model.specs.Families.{Family}
use Rattle.sol_model.specs.Solutions.{IsLeast}
use Rattle.alias_query.specs.declared.answers.Question.{Question}
use Rattle.alias_query.specs.declared.answers.Answer.{Answer}
use Rattle.alias_query.specs.declared.answers.Answer.TheVariants.{Yes, No, NotYet}
use Rattle.alias_query.specs.Answers.{AnswerOf, IsAnswer}
use Rattle.question_desk.specs.declared.ask.Ask.{Ask}
use Rattle.question_desk.specs.Settled.{is_yes, IsSettled, AreSettled}

-- on closed sets an answer is yes exactly where the least solution says so
pub yes_says : (S : System) (before after : View) (question : Question) (answer : Answer)
    → IsAnswer S before after question answer → after.last ≡ 1
    → (F : Family) → IsLeast S F → (is_yes answer ≡ true ↔ AnswerOf S F question)
yes_says S before after question Yes is closed F least = ((λ _. is.yes refl F least), λ _. refl)
yes_says S before after question No is closed F least =
    ((λ e. absurd (true≢false (sym e))), λ says. absurd (((is.no.0 refl).1) F least says))
yes_says S before after question NotYet is closed F least =
    ((λ e. absurd (true≢false (sym e))), λ says. absurd (is.closed closed refl))

-- one more ask with its answer
pub settled_more : (S : System) (asks : List Ask) (answers : List Bool) (ask : Ask) (answer : Bool)
    → AreSettled S asks answers → IsSettled S ask answer → AreSettled S (asks ++ ask ∷ []) (answers ++ answer ∷ [])
settled_more S [] [] ask answer all one = (one, tt)
settled_more S [] (b ∷ bs) ask answer all one = absurd all
settled_more S (a ∷ as') [] ask answer all one = absurd all
settled_more S (a ∷ as') (b ∷ bs) ask answer all one = (all.0, settled_more S as' bs ask answer all.1 one)

-- one more ask of a list with its answer
pub settled_next : (S : System) (asks : List Ask) (i : ℕ) (d : Ask) (answers new : List Bool) (answer : Bool) → i < length asks
    → AreSettled S (take i asks) answers
    → IsSettled S (get_or asks i d) answer
    → new ≡ answers ++ answer ∷ []
    → AreSettled S (take (i + 1) asks) new
settled_next S asks i d answers new answer within all one more =
    let P : List Ask × List Bool → Type 0 = λ y. AreSettled S y.0 y.1 in
    subst P (λ k. (sym (take_more asks i d within) k, sym more k))
    (settled_more S (take i asks) answers (get_or asks i d) answer all one)

-- a seat that has only asked, twice
pub only_again : (u v w : View) → u.last ≡ 1 → v.last ≡ 1 → w.last ≡ 1 → OnlyAsked u v → OnlyAsked v w → OnlyAsked u w
only_again u v w first second third one two =
    (asked_again u v w (record { asked = one; last = λ k l. second }) (record { asked = two; last = λ k l. third })).asked
