-- From what is held of answers to what they say.
use Rattle.std.proofs.Common.{◌≡◌, ℕ, ◌<◌, ◌+◌, ◌++◌, zero, suc, List, [], ◌∷◌, Some, length, slice_get, replicate, take, refl, sym, ◌∙◌, ap, subst, get_or, append-nil, append_assoc}
use Rattle.std.specs.List.{flat_map}
use Rattle.std.proofs.lemmas.List.{take_more, length-replicate}
use Rattle.std.proofs.lemmas.Option.{slice_get_within}
use Rattle.std.proofs.lemmas.Grind.{flat_map-append}
use Rattle.sol_model.specs.declared.system.System.{System}
use Rattle.sol_model.specs.Families.{Family}
use Rattle.sol_model.specs.Solutions.{IsLeast}
use Rattle.alias_query.specs.declared.answers.Question.{Question}
use Rattle.alias_query.specs.declared.answers.Answer.{Answer}
use Rattle.alias_query.specs.declared.answers.Answer.TheVariants.{Yes, No, NotYet}
use Rattle.alias_query.specs.ask_rounds.Said.{Says, AreAnswers, line_of}
use Rattle.alias_query.specs.ask_rounds.Tries.{AreHeld, Holds, NoneOpen}

-- before the first try all answers are open
open_at : (n i : ℕ) (answer : Answer) → slice_get (replicate n NotYet) i ≡ Some answer → NotYet ≡ answer
open_at zero i answer there = absurd (cc)
open_at (suc n) zero answer there = cc
open_at (suc n) (suc i) answer there = open_at n i answer there

pub held_first : (S : System) (questions : List Question) → AreHeld S questions (replicate (length questions) NotYet)
held_first S questions = record {
  count = length-replicate (length questions) NotYet;
  each = λ i question answer here there. subst (λ (a : Answer). Holds S question a) (open_at (length questions) i answer there) tt;
}

-- an answer that isn't open says what the least solution says
said : (S : System) (F : Family) (question : Question) (answer : Answer) → IsLeast S F → Holds S question answer → (answer ≡ NotYet → ⊥) → Says S F question answer
said S F question Yes least h settled = h F least
said S F question No least h settled = h F least
said S F question NotYet least h settled = absurd (settled refl)

pub answers_said : (S : System) (F : Family) (questions : List Question) (answers : List Answer) → IsLeast S F → AreHeld S questions answers → NoneOpen answers (length questions) → AreAnswers S F questions answers
answers_said S F questions answers least held settled = record {
  count = held.count;
  each = λ i question answer here there.
      said S F question answer least (held.each i question answer here there)
      (λ is. settled i (slice_get_within questions i question here) (there ∙ ap (λ (a : Answer). Some a) is));
}

line_last : (text lines line : List ℕ) → text ++ (lines ++ (line ++ [])) ≡ (text ++ lines) ++ line
line_last text lines line = ap (λ (l : List ℕ). text ++ (lines ++ l)) (append-nil line) ∙ sym (append_assoc text lines line)

-- a line more
pub line_more : (text : List ℕ) (answers : List Answer) (i : ℕ) (d : Answer) → i < length answers → text ++ flat_map line_of (take (i + 1) answers) ≡ (text ++ flat_map line_of (take i answers)) ++ line_of (get_or answers i d)
line_more text answers i d within =
    ap (λ (l : List Answer). text ++ flat_map line_of l) (take_more answers i d within)
    ∙ ap (λ (l : List ℕ). text ++ l) (flat_map-append line_of (take i answers) (get_or answers i d ∷ []))
    ∙ line_last text (flat_map line_of (take i answers)) (line_of (get_or answers i d))
