-- Settings in which the same words name something take the same scripts.
use Rattle.std.proofs.Common.{arith, ◌≡◌, ◌∙◌, ◌+◌, ◌<◌, ◌⊎◌, ℕ, zero, suc, List, [], ◌∷◌, ◌++◌, length, slice_get, Some, refl, sym, ap, subst, inl, inr}
use Rattle.std.proofs.lemmas.Bool.{cases_lt}
use Rattle.alias_query.specs.declared.answers.Question.{Question}
use Rattle.alias_query.specs.declared.answers.Question.TheVariants.{Points, Alias, Reaches}
use Rattle.alias_query.specs.Script.{pieces, IsVerb, IsBad}
use Rattle.alias_query.specs.Asked.{Setting, Means, Asks, AreAsked, IsFirst, IsNameless}
use Rattle.twin_report_laws.proofs.outcome_laws.twin_locations.Options.{some_one, none_some}
use Rattle.twin_report_laws.specs.outcome_laws.twin_scripts.Scripts.{SameWords, IsRefusedAt, OneReading}

means_there : (one other : Setting) (verb first second : List ℕ) (question : Question) → SameWords one other → Means one verb first second question → (other_question : Question) × Means other verb first second other_question
means_there one other verb first second (Points row location) w h =
    let (k, set) = w.sets first row h.1 in
    let (m, named) = w.locations second location h.2 in
    (Points k m, (h.0, set, named))
means_there one other verb first second (Alias left right) w h =
    let (k, set) = w.sets first left h.1 in
    let (m, more) = w.sets second right h.2 in
    (Alias k m, (h.0, set, more))
means_there one other verb first second (Reaches call function) w h =
    let (d, at) = w.calls first call h.1 in
    let (g, named) = w.functions second function h.2 in
    (Reaches d g, (h.0, at, named))

verb_known : (s : Setting) (verb first second : List ℕ) (question : Question) → Means s verb first second question → IsVerb verb
verb_known s verb first second (Points row location) h = inl h.0
verb_known s verb first second (Alias left right) h = inr (inl h.0)
verb_known s verb first second (Reaches call function) h = inr (inr h.0)

asks_there : (one other : Setting) (line : List ℕ) (question : Question) → SameWords one other → Asks one line question → (other_question : Question) × Asks other line other_question
asks_there one other line question w h =
    let (found, meant) = means_there one other h.verb h.first h.second question w h.meant in
    (found, record { verb = h.verb; first = h.first; second = h.second; form = h.form; meant = meant })

-- a line that is empty or asks a question
abbrev IsRead : Setting → List ℕ → Type 0
IsRead s line = (line ≡ []) ⊎ ((question : Question) × Asks s line question)

read_there : (one other : Setting) (line : List ℕ) → SameWords one other → IsRead one line → IsRead other line
read_there one other line w (inl empty) = inl empty
read_there one other line w (inr asks) = inr (asks_there one other line asks.0 w asks.1)

asked_there : (one other : Setting) (lines : List (List ℕ)) (questions : List Question) → SameWords one other → AreAsked one lines questions → (others : List Question) × AreAsked other lines others
asked_there one other [] questions w h = ([], refl)
asked_there one other (line ∷ lines) questions w (inl empty) =
    let (others, more) = asked_there one other lines questions w empty.1 in
    (others, inl (empty.0, more))
asked_there one other (line ∷ lines) questions w (inr asks) =
    let (others, more) = asked_there one other lines asks.1 w asks.4 in
    let (question, found) = asks_there one other line asks.0 w asks.3 in
    (question ∷ others, inr (question, others, refl, found, more))

each_read : (s : Setting) (lines : List (List ℕ)) (questions : List Question) (i : ℕ) (line : List ℕ) → AreAsked s lines questions → slice_get lines i ≡ Some line → IsRead s line
each_read s [] questions i line h at = absurd (none_some at)
each_read s (first ∷ lines) questions zero line (inl empty) at = inl (sym (some_one at) ∙ empty.0)
each_read s (first ∷ lines) questions zero line (inr asks) at = inr (subst (λ (l : List ℕ). (question : Question) × Asks s l question) (some_one at) (asks.0, asks.3))
each_read s (first ∷ lines) questions (suc i) line (inl empty) at = each_read s lines questions i line empty.1 at
each_read s (first ∷ lines) questions (suc i) line (inr asks) at = each_read s lines asks.1 i line asks.4 at

-- ---- such a line isn't at fault
one_form : (a b c d e f : List ℕ) → ◌≡◌ {A = List (List ℕ)} (a ∷ b ∷ c ∷ []) (d ∷ e ∷ f ∷ []) → (a ≡ d) × (b ≡ e) × (c ≡ f)
one_form a b c d e f h = (cc, cc, cc)

no_words : (a b c : List ℕ) → ◌≡◌ {A = List (List ℕ)} ([] ∷ []) (a ∷ b ∷ c ∷ []) → ⊥
no_words a b c h = absurd (cc)

read_bad : (s : Setting) (line : List ℕ) → IsRead s line → IsBad line → ⊥
read_bad s line (inl empty) bad = bad.some empty
read_bad s line (inr asks) bad =
    let a = asks.1 in
    bad.no_form a.verb a.first a.second a.form (verb_known s a.verb a.first a.second asks.0 a.meant)

read_nameless : (s : Setting) (line : List ℕ) → IsRead s line → IsNameless s line → ⊥
read_nameless s line (inl empty) n = no_words n.verb n.first n.second (sym (ap (pieces 32) empty) ∙ n.form.words)
read_nameless s line (inr asks) n =
    let a = asks.1 in
    let (verb, first, second) = one_form a.verb a.first a.second n.verb n.first n.second (sym a.form.words ∙ n.form.words) in
    n.none asks.0
    (subst (λ (w : List ℕ). Means s n.verb n.first w asks.0) second
    (subst (λ (w : List ℕ). Means s n.verb w a.second asks.0) first (subst (λ (w : List ℕ). Means s w a.first a.second asks.0) verb a.meant)))

-- the first line at fault, by its number from 0
record IsFaultAt (s : Setting) (lines : List (List ℕ)) (n : ℕ) : Type 0 where
  line : List ℕ
  there : slice_get lines n ≡ Some line
  fault : IsRead s line → ⊥
  earlier : (i : ℕ) (x : List ℕ) → i < n → slice_get lines i ≡ Some x → IsRead s x

at_split : (before : List (List ℕ)) (line : List ℕ) (after : List (List ℕ)) → slice_get (before ++ line ∷ after) (length before) ≡ Some line
at_split [] line after = refl
at_split (x ∷ before) line after = at_split before line after

in_front : (before rest : List (List ℕ)) (i : ℕ) → i < length before → slice_get (before ++ rest) i ≡ slice_get before i
in_front [] rest i lt = absurd (omega arith)
in_front (x ∷ before) rest zero lt = refl
in_front (x ∷ before) rest (suc i) lt = in_front before rest i (omega arith)

first_fault : (s : Setting) (lines : List (List ℕ)) (number : ℕ) (Fault : List ℕ → Type 0) → ((line : List ℕ) → IsRead s line → Fault line → ⊥) → IsFirst s lines number Fault
    → (n : ℕ) × (number ≡ n + 1) × IsFaultAt s lines n
first_fault s lines number Fault never f = (
  length f.before,
  f.counted,
  record {
    line = f.line;
    there = ap (λ (list : List (List ℕ)). slice_get list (length f.before)) f.split ∙ at_split f.before f.line f.after;
    fault = λ read. never f.line read f.fault;
    earlier = λ i x lt at.
        each_read s f.before f.questions i x f.good (sym (in_front f.before (f.line ∷ f.after) i lt) ∙ (sym (ap (λ (list : List (List ℕ)). slice_get list i) f.split) ∙ at));
  },
)

fault_at : (s : Setting) (lines : List (List ℕ)) (number : ℕ) → IsRefusedAt s lines number → (n : ℕ) × (number ≡ n + 1) × IsFaultAt s lines n
fault_at s lines number (inl bad) = first_fault s lines number IsBad (read_bad s) bad
fault_at s lines number (inr nameless) = first_fault s lines number (IsNameless s) (read_nameless s) nameless

not_before : (one other : Setting) (lines : List (List ℕ)) (m n : ℕ) → SameWords other one → IsFaultAt one lines m → IsFaultAt other lines n → m < n → ⊥
not_before one other lines m n w f g lt = f.fault (read_there other one f.line w (g.earlier m f.line lt f.there))

one_line : (one other : Setting) (lines : List (List ℕ)) (m n : ℕ) → SameWords one other → SameWords other one → IsRefusedAt one lines m → IsRefusedAt other lines n → m ≡ n
one_line one other lines m n w v h k =
    let (i, m_is, f) = fault_at one lines m h in
    let (j, n_is, g) = fault_at other lines n k in
    elim (cases_lt i j) [
      | inl less ↦ absurd (not_before one other lines i j v f g less)
      | inr more ↦ elim (cases_lt j i) [
        | inl greater ↦ absurd (not_before other one lines j i w g f greater)
        | inr same ↦ omega (arith, m_is, n_is, more, same)
      ]
    ]

not_both : (one other : Setting) (lines : List (List ℕ)) (questions : List Question) (n : ℕ) → SameWords one other → AreAsked one lines questions → IsRefusedAt other lines n → ⊥
not_both one other lines questions n w h k =
    let (i, n_is, f) = fault_at other lines n k in
    f.fault (read_there one other f.line w (each_read one lines questions i f.line h f.there))

pub one_reading : OneReading
one_reading one other w v = record {
  taken = λ lines questions h. asked_there one other lines questions w h;
  refused = λ lines m n h k. one_line one other lines m n w v h k;
  apart = λ lines questions n h k. not_both one other lines questions n w h k;
}
