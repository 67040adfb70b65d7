-- What stays while questions are tried.
use Rattle.std.proofs.Common.{◌≡◌, ℕ, ◌+◌, ◌<◌, zero, suc, true, List, [], ◌∷◌, Some, length, slice_get, refl, sym, ◌∙◌, ap, subst, arith, inl, inr}
use Rattle.std.specs.Prelude.{slice_set}
use Rattle.std.proofs.lemmas.Bool.{cases_eq}
use Rattle.sol_model.specs.declared.system.System.{System}
use Rattle.set_rows.specs.declared.view.View.{View}
use Rattle.alias_query.specs.declared.answers.Question.{Question}
use Rattle.alias_query.specs.declared.answers.Answer.{Answer}
use Rattle.alias_query.specs.declared.answers.Answer.TheVariants.{Yes, No, NotYet}
use Rattle.alias_query.specs.Answers.{IsAnswer}
use Rattle.alias_query.specs.ask_rounds.Tries.{AreHeld, HasAsked, Holds, NoneOpen}

pub asked_nothing : (v : View) → HasAsked v v
asked_nothing v = record {
  asked = record { system = refl; ors = refl; shuts = refl; reads = omega arith; found = refl; part = refl; halvings = refl; knows = λ k. k; seen = λ word k h. h };
  last = λ k one. one;
}

pub asked_again : (u v w : View) → HasAsked u v → HasAsked v w → HasAsked u w
asked_again u v w one two =
    let a = one.asked in let b = two.asked in record {
      asked = record {
        system = b.system ∙ a.system;
        ors = b.ors ∙ a.ors;
        shuts = b.shuts ∙ a.shuts;
        reads = (let x = a.reads in let y = b.reads in omega arith);
        found = b.found ∙ a.found;
        part = b.part ∙ a.part;
        halvings = b.halvings ∙ a.halvings;
        knows = λ k. b.knows (a.knows k);
        seen = λ word k h. b.seen word k (a.seen word k h);
      };
      last = λ k l. two.last (a.knows k) (one.last k l);
    }

-- what one question leaves
pub asked_one : (S : System) (v w : View) (question : Question) (answer : Answer) → IsAnswer S v w question answer → HasAsked v w
asked_one S v w question answer h = record { asked = h.asked; last = λ k one. h.knew k }

pub held_one : (S : System) (v w : View) (question : Question) (answer : Answer) → IsAnswer S v w question answer → Holds S question answer
held_one S v w question Yes h = h.yes refl
held_one S v w question No h = (h.no.0 refl).1
held_one S v w question NotYet h = tt

pub settled_one : (S : System) (v w : View) (question : Question) (answer : Answer) → IsAnswer S v w question answer → v.knows ≡ true → answer ≡ NotYet → ⊥
settled_one S v w question answer h k unsettled = h.closed (h.knew k) unsettled

-- an answer is written
set_here : (xs : List Answer) (i : ℕ) (x : Answer) → i < length xs → slice_get (slice_set xs i x) i ≡ Some x
set_here [] i x lt = absurd (omega arith)
set_here (y ∷ xs) zero x lt = refl
set_here (y ∷ xs) (suc i) x lt = set_here xs i x (omega arith)

set_other : (xs : List Answer) (i j : ℕ) (x : Answer) → (i ≡ j → ⊥) → slice_get (slice_set xs i x) j ≡ slice_get xs j
set_other [] i j x apart = refl
set_other (y ∷ xs) zero zero x apart = absurd (apart refl)
set_other (y ∷ xs) zero (suc j) x apart = refl
set_other (y ∷ xs) (suc i) zero x apart = refl
set_other (y ∷ xs) (suc i) (suc j) x apart = set_other xs i j x (λ e. apart (ap suc e))

set_length : (xs : List Answer) (i : ℕ) (x : Answer) → length (slice_set xs i x) ≡ length xs
set_length [] i x = refl
set_length (y ∷ xs) zero x = refl
set_length (y ∷ xs) (suc i) x = ap suc (set_length xs i x)

one_of : {A : Type 0} (a b : A) → Some a ≡ Some b → a ≡ b
one_of a b h = cc

pub held_more : (S : System) (questions : List Question) (answers : List Answer) (i : ℕ) (question : Question) (answer : Answer) → slice_get questions i ≡ Some question → i < length answers
    → Holds S question answer → AreHeld S questions answers → AreHeld S questions (slice_set answers i answer)
held_more S questions answers i question answer at within holds held = record {
  count = set_length answers i answer ∙ held.count;
  each = λ j q a here there. elim (cases_eq i j) [
    | inl same ↦
        let q_is : question ≡ q = one_of question q (sym at ∙ (ap (slice_get questions) same ∙ here)) in
        let a_is : answer ≡ a = one_of answer a (sym (set_here answers i answer within) ∙ (ap (slice_get (slice_set answers i answer)) same ∙ there)) in
        subst (λ (x : Answer). Holds S q x) a_is (subst (λ (y : Question). Holds S y answer) q_is holds)
    | inr apart ↦ held.each j q a here (sym (set_other answers i j answer apart) ∙ there)
  ];
}

pub none_more : (answers : List Answer) (i : ℕ) (answer : Answer) → i < length answers → (answer ≡ NotYet → ⊥) → NoneOpen answers i → NoneOpen (slice_set answers i answer) (i + 1)
none_more answers i answer within settled before j lt unsettled = elim (cases_eq i j) [
  | inl same ↦ settled (one_of answer NotYet (sym (set_here answers i answer within) ∙ (ap (slice_get (slice_set answers i answer)) same ∙ unsettled)))
  | inr apart ↦ before j (omega arith) (sym (set_other answers i j answer apart) ∙ unsettled)
]
