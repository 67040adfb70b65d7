-- The text from a place on, character by character.
use Rattle.std.proofs.Common.{◌≡◌, ℕ, zero, suc, ◌+◌, ◌<◌, ◌^◌, ◌⊎◌, inl, inr, Bool, true, false, cond, ℤ, pos, List, [], ◌∷◌, Some, None, Result, Ok, Err, length, slice_get, refl, sym, ap, ◌∙◌, subst, arith}
use Rattle.std.specs.Ordering.{int_eq}
use Rattle.std.proofs.lemmas.Option.{none-some, same_Some}
use Rattle.std.proofs.lemmas.Bool.{false≢true}
use Rattle.std.proofs.lemmas.Bool.Decides.{Decides-int_eq}
use Rattle.ref_cells.specs.declared.cells.Reason.{Reason}
use Rattle.ref_cells.specs.declared.cells.Reason.TheVariants.{OutOfRange}
use Rattle.ref_texts.specs.Reading.{char_at, push_char, next_of, text_on, text_from}
use Rattle.ref_lib.specs.text_laws.Told.{Characters, StandAt, IsText}
use Rattle.ref_lib.specs.text_laws.Laws.{TextRead, TextFound, TextStopped}
use Rattle.ref_lib.proofs.text_laws.Steps.{not_ok, not_err, ok_same, err_same, pushed_ok, pushed_err}

-- the characters from the k-th on
abbrev pub From : Characters → ℕ → Characters
From at k j = at (k + j)

-- the text from there on, of so many characters at most
abbrev pub rest_of : Characters → ℕ → ℕ → Result (List ℤ) Reason
rest_of at n k = text_from (λ (j : ℕ). next_of (at j)) (Err OutOfRange) n k

pub rest_none : (at : Characters) (k : ℕ) → rest_of at zero k ≡ Err OutOfRange
unfolding text_from
rest_none at k = refl

pub rest_more : (at : Characters) (n k : ℕ) → rest_of at (suc n) k ≡ text_on (next_of (at k)) (rest_of at n (k + 1))
unfolding text_from
rest_more at n k = refl

pub zero_is : (c : ℤ) → int_eq c (pos 0) ≡ true → c ≡ pos 0
zero_is c is = (Decides-int_eq c (pos 0)).0 is

pub zero_not : (c : ℤ) → int_eq c (pos 0) ≡ false → c ≡ pos 0 → ⊥
zero_not c is z = false≢true (sym is ∙ (Decides-int_eq c (pos 0)).1 z)

pub not_zero : (c : ℤ) (b : Bool) → int_eq c (pos 0) ≡ b → (c ≡ pos 0 → ⊥) → b ≡ false
not_zero c true is ne = absurd (ne (zero_is c is))
not_zero c false is ne = refl

pub at_first : (at : Characters) (k : ℕ) → at (k + 0) ≡ at k
at_first at k = let e : k + 0 ≡ k = omega arith in ap at e

pub at_next : (at : Characters) (k j : ℕ) → at (k + suc j) ≡ at ((k + 1) + j)
at_next at k j = let e : k + suc j ≡ (k + 1) + j = omega arith in ap at e

stand_none : (at : Characters) → StandAt at []
stand_none at = λ j c h. absurd (none-some c h)

stand_more : (at : Characters) (k : ℕ) (c : ℤ) (text : List ℤ) → at k ≡ Ok c → (c ≡ pos 0 → ⊥) → StandAt (From at (k + 1)) text → (j : ℕ) (d : ℤ) → slice_get (c ∷ text) j ≡ Some d → (at (k + j) ≡ Ok d) × (d ≡ pos 0 → ⊥)
stand_more at k c text q ne stand zero d h =
    let same : c ≡ d = same_Some c d h in
    (at_first at k ∙ q ∙ ap (λ (z : ℤ). let r : Result ℤ Reason = Ok z in r) same, λ z. ne (same ∙ z))
stand_more at k c text q ne stand (suc j) d h = let s = stand j d h in (at_next at k j ∙ s.0, s.1)

turn_read : (at : Characters) (k : ℕ) (text : List ℤ) (c : ℤ) (rest : Result (List ℤ) Reason) (b : Bool) → int_eq c (pos 0) ≡ b → at k ≡ Ok c → text_on (Ok (cond b None (Some c))) rest ≡ Ok text → ((more : List ℤ) → rest ≡ Ok more → IsText (From at (k + 1)) more) → IsText (From at k) text
turn_read at k text c rest true is q e go =
    let end : IsText (From at k) [] = record { stand = stand_none (From at k); zero = at_first at k ∙ q ∙ ap (λ (z : ℤ). let r : Result ℤ Reason = Ok z in r) (zero_is c is) } in
    subst (IsText (From at k)) (ok_same [] text e) end
turn_read at k text c rest false is q e go =
    let p = pushed_ok c rest text e in
    let more = go p.0 p.1 in
    let whole : IsText (From at k) (c ∷ p.0) = record { stand = stand_more at k c p.0 q (zero_not c is) more.stand; zero = at_next at k (length p.0) ∙ more.zero } in
    subst (IsText (From at k)) p.2 whole

step_read : (at : Characters) (k : ℕ) (text : List ℤ) (rest : Result (List ℤ) Reason) (r : Result ℤ Reason) → at k ≡ r → text_on (next_of r) rest ≡ Ok text → ((more : List ℤ) → rest ≡ Ok more → IsText (From at (k + 1)) more) → IsText (From at k) text
step_read at k text rest (Err reason) q e go = absurd (not_ok reason text e)
step_read at k text rest (Ok c) q e go = turn_read at k text c rest (int_eq c (pos 0)) refl q e go

read_from : (at : Characters) (n k : ℕ) (text : List ℤ) → rest_of at n k ≡ Ok text → IsText (From at k) text
read_from at zero k text e = absurd (not_ok OutOfRange text (sym (rest_none at k) ∙ e))
read_from at (suc n) k text e =
    step_read at k text (rest_of at n (k + 1)) (at k) refl (sym (rest_more at n k) ∙ e) (λ more h. read_from at n (k + 1) more h)

found_from : (at : Characters) (n k : ℕ) (text : List ℤ) → IsText (From at k) text → length text < n → rest_of at n k ≡ Ok text
found_from at zero k text is lt = absurd (omega arith)
found_from at (suc n) k [] is lt =
    rest_more at n k ∙ ap (λ (r : Result ℤ Reason). text_on (next_of r) (rest_of at n (k + 1))) (sym (at_first at k) ∙ is.zero)
found_from at (suc n) k (c ∷ text) is lt =
    let rest = rest_of at n (k + 1) in
    let here = is.stand 0 c refl in
    let more : IsText (From at (k + 1)) text = record {
      stand = λ j d h. let s = is.stand (suc j) d h in (sym (at_next at k j) ∙ s.0, s.1);
      zero = sym (at_next at k (length text)) ∙ is.zero;
    } in
    rest_more at n k
    ∙ ap (λ (r : Result ℤ Reason). text_on (next_of r) rest) (sym (at_first at k) ∙ here.0)
    ∙ ap (λ (b : Bool). text_on (Ok (cond b None (Some c))) rest) (not_zero c (int_eq c (pos 0)) refl here.1)
    ∙ ap (push_char c) (found_from at n (k + 1) text more (omega arith))

-- what can't be read from the k-th character on, of so many
abbrev Stopped : Characters → ℕ → ℕ → Reason → Type 0
Stopped at n k reason =
    (front : List ℤ) × StandAt (From at k) front × ((at (k + length front) ≡ Err reason) ⊎ ((length front ≡ n) × (reason ≡ OutOfRange)))

stopped_more : (at : Characters) (n k : ℕ) (reason : Reason) (c : ℤ) → at k ≡ Ok c → (c ≡ pos 0 → ⊥) → Stopped at n (k + 1) reason → Stopped at (suc n) k reason
stopped_more at n k reason c q ne more = (
  c ∷ more.0,
  stand_more at k c more.0 q ne more.1,
  elim more.2 [
    | inl stop ↦ inl (at_next at k (length more.0) ∙ stop)
    | inr past ↦ inr (ap suc past.0, past.1)
  ],
)

turn_stopped : (at : Characters) (n k : ℕ) (reason : Reason) (c : ℤ) (rest : Result (List ℤ) Reason) (b : Bool) → int_eq c (pos 0) ≡ b → at k ≡ Ok c → text_on (Ok (cond b None (Some c))) rest ≡ Err reason → (rest ≡ Err reason → Stopped at n (k + 1) reason) → Stopped at (suc n) k reason
turn_stopped at n k reason c rest true is q e go = absurd (not_err reason [] e)
turn_stopped at n k reason c rest false is q e go = stopped_more at n k reason c q (zero_not c is) (go (pushed_err c rest reason e))

step_stopped : (at : Characters) (n k : ℕ) (reason : Reason) (rest : Result (List ℤ) Reason) (r : Result ℤ Reason) → at k ≡ r → text_on (next_of r) rest ≡ Err reason → (rest ≡ Err reason → Stopped at n (k + 1) reason) → Stopped at (suc n) k reason
step_stopped at n k reason rest (Err other) q e go =
    ([], stand_none (From at k), inl (at_first at k ∙ q ∙ ap (λ (x : Reason). let r : Result ℤ Reason = Err x in r) (err_same {A = List ℤ} other reason e)))
step_stopped at n k reason rest (Ok c) q e go = turn_stopped at n k reason c rest (int_eq c (pos 0)) refl q e go

stopped_from : (at : Characters) (n k : ℕ) (reason : Reason) → rest_of at n k ≡ Err reason → Stopped at n k reason
stopped_from at zero k reason e = ([], stand_none (From at k), inr (refl, sym (err_same {A = List ℤ} OutOfRange reason (sym (rest_none at k) ∙ e))))
stopped_from at (suc n) k reason e =
    step_stopped at n k reason (rest_of at n (k + 1)) (at k) refl (sym (rest_more at n k) ∙ e) (λ h. stopped_from at n (k + 1) reason h)

pub from_start : (at : Characters) (j : ℕ) → at (0 + j) ≡ at j
from_start at j = let e : 0 + j ≡ j = omega arith in ap at e

pub text_read : TextRead
text_read table memory place text e =
    let at = char_at table memory place in
    let is = read_from at (2 ^ 64) 0 text e in
    record {
      stand = λ j c h. let s = is.stand j c h in (sym (from_start at j) ∙ s.0, s.1);
      zero = sym (from_start at (length text)) ∙ is.zero;
    }

pub text_found : TextFound
text_found table memory place text is lt =
    let at = char_at table memory place in
    found_from at (2 ^ 64) 0 text (record {
      stand = λ j c h. let s = is.stand j c h in (from_start at j ∙ s.0, s.1);
      zero = from_start at (length text) ∙ is.zero;
    }) lt

pub text_stopped : TextStopped
text_stopped table memory place reason e =
    let at = char_at table memory place in
    let s = stopped_from at (2 ^ 64) 0 reason e in
    let stand : StandAt at s.0 = λ j c h. let t = s.1 j c h in (sym (from_start at j) ∙ t.0, t.1) in
    elim s.2 [
      | inl stop ↦ inl (record { front = s.0; stand = stand; stop = sym (from_start at (length s.0)) ∙ stop })
      | inr past ↦ inr (s.0, past.0, stand, past.1)
    ]
