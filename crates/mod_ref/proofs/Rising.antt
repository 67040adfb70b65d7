-- Rows that spread along pairs of functions.
use Rattle.std.proofs.Common.{◌≡◌, ℕ, zero, suc, ◌+◌, ◌*◌, ◌-◌, ◌^◌, ◌<◌, ◌≤◌, ◌⊎◌, Bool, true, false, List, length, get_or, set, bit_or, sum_by, Some, slice_get, Contains, refl, sym, ◌∙◌, ap, subst, inl, inr, arith, mul-le-mul_right, suc-mul}
use Rattle.std.proofs.lemmas.Bool.{cases_lt, true≢false}
use Rattle.std.proofs.lemmas.List.Sums.{sum_by-set}
use Rattle.std.proofs.lemmas.List.{set-get_or}
use Rattle.std.proofs.lemmas.Nat.{le_or_l}
use Rattle.std.proofs.lemmas.Option.{same_Some}
use Rattle.sol_model.specs.declared.rows.Rows.{Rows}
use Rattle.sol_model.specs.Families.{Family, Has, IsContained, IsInside, AddsAll, HoldsRow, members, room_left}
use Rattle.sol_model.proofs.Members.{at_Contains}
use Rattle.mod_ref.specs.Ways.{KeepsKeyed, HasRows, Spreads}

-- ---- words
-- a word that is joined with another takes room where that changes it
pub word_room : (words : List ℕ) (i held joined : ℕ) → i < length words → held ≡ get_or words i 0 → held < 2 ^ 64 → held ≤ joined → (joined ≡ held → ⊥)
    → sum_by (λ word. 2 ^ 64 - word) (set words i joined) < sum_by (λ word. 2 ^ 64 - word) words
word_room words i held joined lt is small up apart =
    let total = sum_by-set (λ word. 2 ^ 64 - word) words i joined 0 lt in
    let grown : held < joined = omega arith in
    let old : get_or words i 0 ≡ held = sym is in
    omega arith

pub word_same : (words : List ℕ) (i held joined : ℕ) → held ≡ get_or words i 0 → joined ≡ held → set words i joined ≡ words
word_same words i held joined is same = ap (set words i) (same ∙ is) ∙ set-get_or words i 0

-- ---- rows
pub row_within : (rows : Rows) (count row : ℕ) → HasRows rows count → row < count → HoldsRow rows row
row_within rows count row has lt =
    let more : suc row * rows.width ≤ count * rows.width = mul-le-mul_right rows.width lt in
    omega (arith, suc-mul row rows.width)

pub spreads_none : (ways : List (ℕ × ℕ × ℕ)) (rows : Rows) → Spreads ways rows rows
spreads_none ways rows = record { width = refl; words = refl; kept = λ r l h. h; below = λ G keeps inside. inside }

pub spreads_then : (ways : List (ℕ × ℕ × ℕ)) (old now new : Rows) → Spreads ways old now → Spreads ways now new → Spreads ways old new
spreads_then ways old now new one other = record {
  width = other.width ∙ one.width;
  words = other.words ∙ one.words;
  kept = λ r l h. other.kept r l (one.kept r l h);
  below = λ G keeps inside. other.below G keeps (one.below G keeps inside);
}

-- the set of a callee was added to that of its caller
pub spreads_pair : (ways : List (ℕ × ℕ × ℕ)) (key caller callee : ℕ) (old new : Rows) → Contains ways (key, caller, callee) → AddsAll (members old) (members new) callee caller → new.width ≡ old.width → length new.words ≡ length old.words → Spreads ways old new
spreads_pair ways key caller callee old new listed adds width words = record {
  width = width;
  words = words;
  kept = adds.kept;
  below = λ G keeps inside r l h. elim (adds.nothing_else r l h) [
    | inl before ↦ inside r l before
    | inr more ↦ subst (λ f. Has G f l) (sym more.0) (keeps key caller callee listed l (inside callee l more.1))
  ];
}

-- where that changed nothing, the one was inside the other
pub contained_same : (caller callee : ℕ) (old new : Rows) → AddsAll (members old) (members new) callee caller → new ≡ old → IsContained (members new) callee caller
contained_same caller callee old new adds same l h = adds.added l (subst (λ (rows : Rows). Has (members rows) callee l) same h)

-- what holds of the pairs so far holds of all
pub closed_all : (ways : List (ℕ × ℕ × ℕ)) (rows : Rows) (count : ℕ) → length ways ≤ count
    → ((k key caller callee : ℕ) → k < count → slice_get ways k ≡ Some (key, caller, callee) → IsContained (members rows) callee caller) → KeepsKeyed (members rows) ways
closed_all ways rows count all each key caller callee h =
    let at = at_Contains ways (key, caller, callee) h in each at.0 key caller callee (let lt = at.1 in omega arith) at.2

pub closed_next : (ways : List (ℕ × ℕ × ℕ)) (old new : Rows) (i : ℕ) (key caller callee : ℕ) → slice_get ways i ≡ Some (key, caller, callee) → new ≡ old
    → IsContained (members new) callee caller
    → ((k low a b : ℕ) → k < i → slice_get ways k ≡ Some (low, a, b) → IsContained (members old) b a)
    → (k low a b : ℕ) → k < i + 1 → slice_get ways k ≡ Some (low, a, b) → IsContained (members new) b a
closed_next ways old new i key caller callee at same here before k low a b lt there = elim (cases_lt k i) [
  | inl less ↦ subst (λ (rows : Rows). IsContained (members rows) b a) (sym same) (before k low a b less there)
  | inr ge ↦
      (let e : k ≡ i = omega arith in
      let pair = same_Some _ _ (sym at ∙ (ap (slice_get ways) (sym e) ∙ there)) in
      subst (λ (w : ℕ × ℕ × ℕ). IsContained (members new) w.2 w.1) pair here)
]

pub rows_counted : (ways : List (ℕ × ℕ × ℕ)) (count : ℕ) (old new : Rows) → HasRows old count → Spreads ways old new → HasRows new count
rows_counted ways count old new has spreads = spreads.words ∙ (has ∙ ap (λ n. count * n) (sym spreads.width))

-- room goes with what changes
pub room_by : (changed more : Bool) (old now new : ℕ) → (changed ≡ true) ⊎ (more ≡ true) → (changed ≡ true → now < old) → (changed ≡ false → now ≡ old) → (more ≡ true → new < now) → (more ≡ false → new ≡ now) → new < old
room_by true true old now new h a b c d = let x = a refl in let y = c refl in omega arith
room_by true false old now new h a b c d = let x = a refl in let y = d refl in omega arith
room_by false true old now new h a b c d = let x = b refl in let y = c refl in omega arith
room_by false false old now new h a b c d = elim h [ inl t ↦ absurd (true≢false (sym t)) | inr t ↦ absurd (true≢false (sym t)) ]
