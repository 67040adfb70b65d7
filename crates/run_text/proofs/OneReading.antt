-- A text is read as words in one way.
use Rattle.std.proofs.Common.{arith, ◌≡◌, ◌∙◌, ℕ, suc, ◌+◌, ◌<◌, ◌≤◌, ◌^◌, List, [], ◌∷◌, ◌++◌, length, Result, Ok, Err, Bool, true, false, ◌&&◌, ◌||◌, nat_le, nat_eq, All, IfSome, slice_get, refl, ap, sym, subst}
use Rattle.std.proofs.lemmas.Bool.{eqb-true, leb-true}
use Rattle.std.proofs.lemmas.List.{length-append}
use Rattle.ref_state.specs.run_words.Words.{is_space, is_digit, number_from, AreDigits, before, IsReading, ends, space, number, large, other}

-- ---- white space is no digit
first_true : (b c : Bool) → (b && c) ≡ true → b ≡ true
first_true true c h = refl
first_true false c h = cc

second_true : (b c : Bool) → (b && c) ≡ true → c ≡ true
second_true true c h = h
second_true false c h = cc

low_space : (x : ℕ) (b c : Bool) → nat_eq x 32 ≡ b → nat_le x 13 ≡ c → (b || (nat_le 9 x && c)) ≡ true → 48 ≤ x → ⊥
low_space x true c is least h most = let same : x ≡ 32 = eqb-true x 32 is in omega arith
low_space x false c is least h most = let under : x ≤ 13 = leb-true x 13 (least ∙ second_true (nat_le 9 x) c h) in omega arith

space_or_digit : (x : ℕ) → is_space x ≡ true → is_digit x ≡ true → ⊥
space_or_digit x spaced digit = low_space x (nat_eq x 32) (nat_le x 13) refl refl spaced (leb-true 48 x (first_true (nat_le 48 x) (nat_le x 57) digit))

-- ---- digits end in one place
Digit : ℕ → Type 0
Digit x = is_digit x ≡ true

Ends : List ℕ → Type 0
Ends rest = IfSome (slice_get rest 0) (λ x. is_digit x ≡ false)

goes_on : (rest : List ℕ) (y : ℕ) (others : List ℕ) → Ends rest → rest ≡ y ∷ others → Digit y → ⊥
unfolding Digit Ends
goes_on rest y others stop same digit = let end : is_digit y ≡ false = subst Ends same stop in cc

heads : (x y : ℕ) (xs ys : List ℕ) → x ∷ xs ≡ y ∷ ys → (x ≡ y) × (xs ≡ ys)
heads x y xs ys h = (cc, cc)

same_digits : (d e rest others : List ℕ) → All Digit d → All Digit e → Ends rest → Ends others → d ++ rest ≡ e ++ others → (d ≡ e) × (rest ≡ others)
same_digits [] [] rest others ds es stop end same = (refl, same)
same_digits [] (y ∷ e) rest others ds es stop end same = absurd (goes_on rest y (e ++ others) stop same (es 0 0 (omega arith)))
same_digits (x ∷ d) [] rest others ds es stop end same = absurd (goes_on others x (d ++ rest) end (sym same) (ds 0 0 (omega arith)))
same_digits (x ∷ d) (y ∷ e) rest others ds es stop end same =
    let both = heads x y (d ++ rest) (e ++ others) same in
    let more = same_digits d e rest others (λ k z within. ds (suc k) z (omega arith)) (λ k z within. es (suc k) z (omega arith)) stop end both.1 in
    (ap (λ (z : ℕ). z ∷ d) both.0 ∙ ap (λ (l : List ℕ). y ∷ l) more.0, more.1)

-- a text that begins with digits isn't empty, and begins with a digit
not_empty : (d rest : List ℕ) → 0 < length d → [] ≡ d ++ rest → ⊥
not_empty [] rest some h = omega arith
not_empty (x ∷ d) rest some h = cc

first_digit : (d rest : List ℕ) (x : ℕ) (xs : List ℕ) → 0 < length d → All Digit d → x ∷ xs ≡ d ++ rest → Digit x
unfolding Digit
first_digit [] rest x xs some digits h = absurd (omega arith)
first_digit (y ∷ d) rest x xs some digits h = ap is_digit (heads x y xs (d ++ rest) h).0 ∙ digits 0 0 (omega arith)

module _ (d e rest others : List ℕ) (one : AreDigits d rest) (two : AreDigits e others) (same : d ++ rest ≡ e ++ others) where
  both_ends : (d ≡ e) × (rest ≡ others)
  unfolding Digit Ends
  both_ends = same_digits d e rest others one.each two.each one.whole two.whole same

  fits_or_not : number_from 0 d < 2 ^ 64 → 2 ^ 64 ≤ number_from 0 e → ⊥
  fits_or_not fits over = let is : number_from 0 d ≡ number_from 0 e = ap (number_from 0) both_ends.0 in omega arith

module _ (d rest : List ℕ) (x : ℕ) (xs : List ℕ) (one : AreDigits d rest) (same : x ∷ xs ≡ d ++ rest) where
  digit_first : is_digit x ≡ true
  unfolding Digit
  digit_first = first_digit d rest x xs one.some one.each same

  no_space : is_space x ≡ true → ⊥
  no_space h = space_or_digit x h digit_first

  no_other : is_digit x ≡ false → ⊥
  no_other h = let digit = digit_first in cc

spaces : (x y : ℕ) (xs ys : List ℕ) → x ∷ xs ≡ y ∷ ys → is_space x ≡ true → is_space y ≡ false → ⊥
spaces x y xs ys same h k = let e : is_space x ≡ is_space y = ap is_space (heads x y xs ys same).0 in cc

-- ---- two readings of one text
reading : {at there : ℕ} {text texts : List ℕ} {r s : Result (List ℕ) ℕ} → IsReading at text r → IsReading there texts s → at ≡ there → text ≡ texts → r ≡ s
reading ends ends here same = refl
reading ends (space h k) here same = absurd (cc)
reading ends (number {digits = e} {rest = q} two fits k) here same = absurd (not_empty e q two.some same)
reading ends (large {digits = e} {rest = q} two over) here same = absurd (not_empty e q two.some same)
reading ends (other h k) here same = absurd (cc)
reading (space h k) ends here same = absurd (cc)
reading (space {byte = x} {rest = xs} h k) (space {byte = y} {rest = ys} l m) here same = reading k m (omega arith) (heads x y xs ys same).1
reading (space {byte = x} {rest = xs} h k) (number {digits = e} {rest = q} two fits m) here same = absurd (no_space e q x xs two same h)
reading (space {byte = x} {rest = xs} h k) (large {digits = e} {rest = q} two over) here same = absurd (no_space e q x xs two same h)
reading (space {byte = x} {rest = xs} h k) (other {byte = y} {rest = ys} l m) here same = absurd (spaces x y xs ys same h l)
reading (number {digits = d} {rest = p} one fits k) ends here same = absurd (not_empty d p one.some (sym same))
reading (number {digits = d} {rest = p} one fits k) (space {byte = y} {rest = ys} l m) here same = absurd (no_space d p y ys one (sym same) l)
reading (number {digits = d} {rest = p} {answer = v} one fits k) (number {digits = e} {rest = q} {answer = w} two less m) here same =
    let both = both_ends d e p q one two same in
    let lengths : length d ≡ length e = ap length both.0 in
    ap (λ (n : ℕ). before n v) (ap (number_from 0) both.0) ∙ ap (before (number_from 0 e)) (reading k m (omega arith) both.1)
reading (number {digits = d} {rest = p} one fits k) (large {digits = e} {rest = q} two over) here same = absurd (fits_or_not d e p q one two same fits over)
reading (number {digits = d} {rest = p} one fits k) (other {byte = y} {rest = ys} l m) here same = absurd (no_other d p y ys one (sym same) m)
reading (large {digits = d} {rest = p} one over) ends here same = absurd (not_empty d p one.some (sym same))
reading (large {digits = d} {rest = p} one over) (space {byte = y} {rest = ys} l m) here same = absurd (no_space d p y ys one (sym same) l)
reading (large {digits = d} {rest = p} one over) (number {digits = e} {rest = q} two fits m) here same = absurd (fits_or_not e d q p two one (sym same) fits over)
reading (large one over) (large two more) here same = ap Err here
reading (large {digits = d} {rest = p} one over) (other {byte = y} {rest = ys} l m) here same = absurd (no_other d p y ys one (sym same) m)
reading (other h k) ends here same = absurd (cc)
reading (other {byte = x} {rest = xs} h k) (space {byte = y} {rest = ys} l m) here same = absurd (spaces y x ys xs (sym same) l h)
reading (other {byte = x} {rest = xs} h k) (number {digits = e} {rest = q} two fits m) here same = absurd (no_other e q x xs two same k)
reading (other {byte = x} {rest = xs} h k) (large {digits = e} {rest = q} two over) here same = absurd (no_other e q x xs two same k)
reading (other h k) (other l m) here same = ap Err here

-- a text is read in one way
pub one_reading : (at : ℕ) (text : List ℕ) (r s : Result (List ℕ) ℕ) → IsReading at text r → IsReading at text s → r ≡ s
one_reading at text r s h k = reading h k refl refl

-- ---- a byte that isn't read stands in the text
err_of : (n : ℕ) (v : Result (List ℕ) ℕ) (at : ℕ) → before n v ≡ Err at → v ≡ Err at
err_of n (Ok words) at h = cc
err_of n (Err k) at h = h

err_at : (a b : ℕ) → ◌≡◌ {A = Result (List ℕ) ℕ} (Err a) (Err b) → a ≡ b
err_at a b h = cc

stands : {from : ℕ} {text : List ℕ} {r : Result (List ℕ) ℕ} → IsReading from text r → (at : ℕ) → r ≡ Err at → at < from + length text
stands ends at same = absurd (cc)
stands (space h k) at same = let rest = stands k at same in omega arith
stands (number {at = from} {digits = d} {rest = p} {answer = v} one fits k) at same =
    let rest = stands k at (err_of (number_from 0 d) v at same) in
    let size = length-append d p in omega arith
stands (large {at = from} {digits = d} {rest = p} one over) at same =
    let here : from ≡ at = err_at from at same in
    let size = length-append d p in
    let some = one.some in omega arith
stands (other {at = from} h k) at same = let here : from ≡ at = err_at from at same in omega arith

pub refused_within : (text : List ℕ) (at : ℕ) → IsReading 0 text (Err at) → at < length text
refused_within text at h = let there = stands h at refl in omega arith
