-- Families as words: what a fact says of a word, and what a changed word says of facts. Every crate that keeps rows in
-- words rests on these.
use Rattle.std.proofs.Common.{◌≡◌, ℕ, suc, ◌+◌, ◌*◌, ◌/◌, ◌%◌, ◌<◌, ◌≤◌, List, length, get_or, set, max, bit_or, ◌⊎◌, inl, inr, sym, ap, ◌∙◌, subst, refl, arith, get_or-set_same, get_or-set_other, mul-le-mul_right, suc-mul}
use Rattle.std.specs.Int.{bit_at}
use Rattle.std.proofs.lemmas.Bool.{cases_eq, cases_lt}
use Rattle.std.proofs.lemmas.Nat.Bits.{bit_at_or, bit_at-lt, bit_at-zero}
use Rattle.std.proofs.lemmas.List.{get_or_past}
use Rattle.sol_model.specs.declared.system.System.{System}
use Rattle.sol_model.specs.declared.rows.Rows.{Rows}
use Rattle.sol_model.specs.Families.{Has, IsInside, shown}
use Rattle.sol_model.specs.Systems.{IsLocation, Fits, width_of, location_count}
use Rattle.sol_model.specs.Words.{Within, At}
use Rattle.sol_model.proofs.Shown.{within_shown, bit_shown, shown_from_bit}

pub has_bit : (width : ℕ) (words : List ℕ) (row location : ℕ) → Has (shown width words) row location → At width (row * width + location / 64) (get_or words (row * width + location / 64) 0) row location
has_bit width words row location h = (within_shown width words row location h, refl, bit_shown width words row location h)

pub bit_has : (width : ℕ) (words : List ℕ) (row location : ℕ) → location < 64 * width → bit_at (get_or words (row * width + location / 64) 0) (location % 64) ≡ 1 → Has (shown width words) row location
bit_has = shown_from_bit

max_one : (a b : ℕ) → a < 2 → b < 2 → max a b ≡ 1 → (a ≡ 1) ⊎ (b ≡ 1)
max_one a b la lb e = elim (cases_eq a 1) [ inl h ↦ inl h | inr h ↦ inr (omega arith) ]

-- the bits of an `|`
pub within_or : (a m k : ℕ) → bit_at a k ≡ 1 → bit_at (bit_or a m) k ≡ 1
within_or a m k h = omega (arith, bit_at_or a m k, bit_at-lt m k)

pub adds_or : (a m k : ℕ) → bit_at m k ≡ 1 → bit_at (bit_or a m) k ≡ 1
adds_or a m k h = omega (arith, bit_at_or a m k, bit_at-lt a k)

pub from_or : (a m k : ℕ) → bit_at (bit_or a m) k ≡ 1 → (bit_at a k ≡ 1) ⊎ (bit_at m k ≡ 1)
from_or a m k h = max_one (bit_at a k) (bit_at m k) (bit_at-lt a k) (bit_at-lt m k) (sym (bit_at_or a m k) ∙ h)

-- words that have the bits of others, place by place
pub words_inside : (width : ℕ) (xs ys : List ℕ) → ((i : ℕ) → Within (get_or xs i 0) (get_or ys i 0)) → IsInside (shown width xs) (shown width ys)
words_inside width xs ys w row location h = let at = has_bit width xs row location h in bit_has width ys row location at.0 (w (row * width + location / 64) (location % 64) at.2)

pub within_set : (xs : List ℕ) (i y : ℕ) → i < length xs → Within (get_or xs i 0) y → (j : ℕ) → Within (get_or xs j 0) (get_or (set xs i y) j 0)
within_set xs i y lt w j k h = elim (cases_eq j i) [
  | inl e ↦ subst (λ (v : ℕ). bit_at v k ≡ 1) (sym (ap (λ n. get_or (set xs i y) n 0) e ∙ get_or-set_same xs i y 0 lt)) (w k (ap (λ n. bit_at (get_or xs n 0) k) (sym e) ∙ h))
  | inr ne ↦ ap (λ v. bit_at v k) (get_or-set_other xs i j y 0 ne) ∙ h
]

-- a fact of words one of which was replaced is a fact of the others, or of the new one
pub set_has : (width : ℕ) (xs : List ℕ) (i y row location : ℕ) → i < length xs → Has (shown width (set xs i y)) row location → Has (shown width xs) row location ⊎ At width i y row location
set_has width xs i y row location lt h =
    let x : ℕ = row * width + location / 64 in
    let at = has_bit width (set xs i y) row location h in
    elim (cases_eq x i) [
      | inl e ↦ inr (at.0, e, ap (λ v. bit_at v (location % 64)) (sym (ap (λ j. get_or (set xs i y) j 0) e ∙ get_or-set_same xs i y 0 lt)) ∙ at.2)
      | inr ne ↦ inl (bit_has width xs row location at.0 (ap (λ v. bit_at v (location % 64)) (sym (get_or-set_other xs i x y 0 ne)) ∙ at.2))
    ]

-- of words one of which got a mask, a fact is one of before, or one of the mask
pub or_has : (width : ℕ) (xs : List ℕ) (i mask row location : ℕ) → i < length xs
    → Has (shown width (set xs i (bit_or (get_or xs i 0) mask))) row location → Has (shown width xs) row location ⊎ At width i mask row location
or_has width xs i mask row location lt h = elim (set_has width xs i _ row location lt h) [
  | inl o ↦ inl o
  | inr at ↦ elim (from_or (get_or xs i 0) mask (location % 64) at.2) [
    | inl o ↦ inl (bit_has width xs row location at.0 (ap (λ j. bit_at (get_or xs j 0) (location % 64)) at.1 ∙ o))
    | inr m ↦ inr (at.0, at.1, m)
  ]
]

pub or_keeps : (width : ℕ) (xs : List ℕ) (i mask : ℕ) → i < length xs → IsInside (shown width xs) (shown width (set xs i (bit_or (get_or xs i 0) mask)))
or_keeps width xs i mask lt = words_inside width xs _ (within_set xs i _ lt (within_or (get_or xs i 0) mask))

-- a fact of the mask is there
pub or_adds : (width : ℕ) (xs : List ℕ) (i mask row location : ℕ) → i < length xs → At width i mask row location → Has (shown width (set xs i (bit_or (get_or xs i 0) mask))) row location
or_adds width xs i mask row location lt at =
    bit_has width (set xs i (bit_or (get_or xs i 0) mask)) row location at.0
    (ap (λ v. bit_at v (location % 64)) (ap (λ j. get_or (set xs i (bit_or (get_or xs i 0) mask)) j 0) at.1 ∙ get_or-set_same xs i _ 0 lt) ∙ adds_or (get_or xs i 0) mask (location % 64) at.2)

-- a bit of the word of a row is a member of that row
pub bit_member : (width : ℕ) (words : List ℕ) (row i k : ℕ) → i < width → k < 64 → bit_at (get_or words (row * width + i) 0) k ≡ 1 → Has (shown width words) row (64 * i + k)
bit_member width words row i k inside low bit =
    let at : (64 * i + k) / 64 ≡ i = omega arith in
    let of : (64 * i + k) % 64 ≡ k = omega arith in
    bit_has width words row (64 * i + k) (omega arith)
    (ap (λ j. bit_at (get_or words (row * width + j) 0) ((64 * i + k) % 64)) at ∙ ap (bit_at (get_or words (row * width + i) 0)) of ∙ bit)

-- rows that fit a system have no bit past the last location
pub bit_location : (system : System) (rows : Rows) (row i k : ℕ) → Fits system rows → i < width_of system → k < 64 → bit_at (get_or rows.words (row * rows.width + i) 0) k ≡ 1 → 64 * i + k < location_count system
bit_location system rows row i k fits inside low bit =
    fits.no_others row (64 * i + k) (bit_member rows.width rows.words row i k (subst (λ w. i < w) (sym fits.width) inside) low bit)

-- a fact in range stands in a word of its row
pub place_below : (rows width row location : ℕ) → row < rows → location < 64 * width → row * width + location / 64 < rows * width
place_below rows width row location r l = let m : suc row * width ≤ rows * width = mul-le-mul_right width r in omega (arith, suc-mul row width)

pub locations_fit : (S : System) (location : ℕ) → IsLocation S location → location < 64 * width_of S
locations_fit S location lt = let count : ℕ = location_count S in let h : location < count = lt in let k : location < 64 * ((count + 63) / 64) = omega arith in k

pub fact_place : (width : ℕ) (words : List ℕ) (row location : ℕ) → Has (shown width words) row location → row * width + location / 64 < length words
fact_place width words row location h =
    let i : ℕ = row * width + location / 64 in
    let at = has_bit width words row location h in
    elim (cases_lt i (length words)) [
      | inl lt ↦ lt
      | inr ge ↦ absurd (let none_set = bit_at-zero (location % 64) in let past : get_or words i 0 ≡ 0 = get_or_past words i 0 ge in let b = ap (λ x. bit_at x (location % 64)) (sym past) ∙ at.2 in omega arith)
    ]
