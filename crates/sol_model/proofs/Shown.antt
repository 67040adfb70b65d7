-- The family that words show, bit by bit.
use Rattle.std.proofs.Common.{◌≡◌, ◌≢◌, ◌⊎◌, ℕ, zero, suc, ◌+◌, ◌*◌, ◌/◌, ◌%◌, ◌-◌, ◌^◌, ◌<◌, ◌≤◌, ◌&&◌, eqb, IsFalse, List, length, get_or, set, replicate, sum_by, bit_and, bit_or, refl, sym, ◌∙◌, ap, inl, inr, arith, min}
use Rattle.std.specs.Int.{bit_at, bit_not, trailing_zeros, w64}
use Rattle.std.proofs.lemmas.Nat.{same_from_place, le_or_l, mod_below, and_le_l}
use Rattle.std.proofs.lemmas.Nat.Bits.{bit_at_and, bit_at_not, bit_at_set_same, bit_at_set_other, bit_at-lt, bit_at-zero, bit_at-trailing_zeros}
use Rattle.std.proofs.lemmas.Bool.{ltb-true, lt-ltb, eqb-true, eq-eqb, ne_eqb, cases_eq, and_parts, and_from, false≢true}
use Rattle.std.proofs.lemmas.List.{get_or-set_other}
use Rattle.std.proofs.lemmas.Grind.{get_or-set_at}
use Rattle.std.proofs.lemmas.List.Sums.{sum_by-set}
use Rattle.sol_model.specs.Families.{Has, Adds, shown}

-- the bit of a location
abbrev pub bit_of : ℕ → List ℕ → ℕ → ℕ → ℕ
bit_of width words row location = bit_at (get_or words (row * width + location / 64) 0) (location % 64)

pub shown_bit : (width : ℕ) (words : List ℕ) (row location : ℕ) → location < 64 * width → shown width words row location ≡ eqb (bit_of width words row location) 1
unfolding shown
shown_bit width words row location h = ap (λ b. b && eqb (bit_of width words row location) 1) (lt-ltb location (64 * width) h)

pub within_shown : (width : ℕ) (words : List ℕ) (row location : ℕ) → Has (shown width words) row location → location < 64 * width
unfolding shown
within_shown width words row location h = ltb-true _ _ (and_parts _ _ h).0

pub bit_shown : (width : ℕ) (words : List ℕ) (row location : ℕ) → Has (shown width words) row location → bit_of width words row location ≡ 1
unfolding shown
bit_shown width words row location h = eqb-true _ _ (and_parts _ _ h).1

pub shown_from_bit : (width : ℕ) (words : List ℕ) (row location : ℕ) → location < 64 * width → bit_of width words row location ≡ 1 → Has (shown width words) row location
unfolding shown
shown_from_bit width words row location h e = and_from _ _ (lt-ltb _ _ h) (eq-eqb _ _ e)

pub unset_bit : (width : ℕ) (words : List ℕ) (row location : ℕ) → location < 64 * width → IsFalse (shown width words row location) → bit_of width words row location ≡ 0
unset_bit width words row location h e =
    let ne : bit_of width words row location ≡ 1 → ⊥ = λ z. false≢true (sym e ∙ shown_from_bit width words row location h z) in
    let small : bit_of width words row location < 2 = bit_at-lt _ _ in
    omega arith

pub unshown_from_bit : (width : ℕ) (words : List ℕ) (row location : ℕ) → location < 64 * width → bit_of width words row location ≡ 0 → IsFalse (shown width words row location)
unshown_from_bit width words row location h e = shown_bit width words row location h ∙ ne_eqb _ _ (λ z. omega arith)

module _ (width : ℕ) (words : List ℕ) (row location : ℕ) (fits : row * width + width ≤ length words) (within : location < 64 * width) where
  -- one word, with one more bit
  abbrev with_bit : List ℕ
  with_bit = set words (row * width + location / 64) (bit_or (get_or words (row * width + location / 64) 0) (1 * 2 ^ (location % 64) % 2 ^ 64))

  inside_row : location / 64 < width
  inside_row = omega arith

  at_word : row * width + location / 64 < length words
  at_word = let i : location / 64 < width = inside_row in omega arith

  bit_same : (r l : ℕ) → r * width + l / 64 ≡ row * width + location / 64 → l % 64 ≡ location % 64 → bit_of width with_bit r l ≡ 1
  bit_same r l e f =
      ap (λ n. bit_at n (l % 64)) (get_or-set_at words _ (r * width + l / 64) _ 0 e at_word)
      ∙ ap (bit_at _) f
      ∙ bit_at_set_same w64 _ (location % 64) (mod_below location 64 (omega arith))

  bit_other : (r l : ℕ) → r * width + l / 64 ≡ row * width + location / 64 → l % 64 ≢ location % 64 → bit_of width with_bit r l ≡ bit_of width words r l
  bit_other r l e f =
      ap (λ n. bit_at n (l % 64)) (get_or-set_at words _ (r * width + l / 64) _ 0 e at_word)
      ∙ bit_at_set_other w64 _ (location % 64) (mod_below location 64 (omega arith)) (l % 64) f
      ∙ ap (λ i. bit_at (get_or words i 0) (l % 64)) (sym e)

  bit_elsewhere : (r l : ℕ) → r * width + l / 64 ≢ row * width + location / 64 → bit_of width with_bit r l ≡ bit_of width words r l
  bit_elsewhere r l e = ap (λ n. bit_at n (l % 64)) (get_or-set_other words _ (r * width + l / 64) _ 0 e)

  keeps_bit : (r l : ℕ) → bit_of width words r l ≡ 1 → bit_of width with_bit r l ≡ 1
  keeps_bit r l h = elim (cases_eq (r * width + l / 64) (row * width + location / 64)) [
    | inl e ↦ elim (cases_eq (l % 64) (location % 64)) [ inl f ↦ bit_same r l e f | inr f ↦ bit_other r l e f ∙ h ]
    | inr e ↦ bit_elsewhere r l e ∙ h
  ]

  same_place : (r l : ℕ) → l < 64 * width → r * width + l / 64 ≡ row * width + location / 64 → l % 64 ≡ location % 64 → (r ≡ row) × (l ≡ location)
  same_place r l h e f =
      let i : l / 64 < width = omega arith in
      let p = same_from_place r (l / 64) row (location / 64) width i inside_row e in
      let q : l / 64 ≡ location / 64 = p.1 in
      (p.0, omega arith)

  only_bit : (r l : ℕ) → l < 64 * width → bit_of width with_bit r l ≡ 1 → (bit_of width words r l ≡ 1) ⊎ ((r ≡ row) × (l ≡ location))
  only_bit r l h b = elim (cases_eq (r * width + l / 64) (row * width + location / 64)) [
    | inl e ↦ elim (cases_eq (l % 64) (location % 64)) [ inl f ↦ inr (same_place r l h e f) | inr f ↦ inl (sym (bit_other r l e f) ∙ b) ]
    | inr e ↦ inl (sym (bit_elsewhere r l e) ∙ b)
  ]

  pub Adds-with_bit : Adds (shown width words) (shown width with_bit) row location
  Adds-with_bit = record {
    added = shown_from_bit width with_bit row location within (bit_same row location refl refl);
    kept = λ r l h. shown_from_bit width with_bit r l (within_shown width words r l h) (keeps_bit r l (bit_shown width words r l h));
    nothing_else = λ r l h. let w = within_shown width with_bit r l h in
        elim (only_bit r l w (bit_shown width with_bit r l h)) [ inl b ↦ inl (shown_from_bit width words r l w b) | inr p ↦ inr p ];
  }

  -- the word that gets a bit that it lacks grows
  word_grows : IsFalse (shown width words row location) → get_or words (row * width + location / 64) 0 < bit_or (get_or words (row * width + location / 64) 0) (1 * 2 ^ (location % 64) % 2 ^ 64)
  word_grows lacks =
      let old = get_or words (row * width + location / 64) 0 in
      let new = bit_or old (1 * 2 ^ (location % 64) % 2 ^ 64) in
      let zero_bit : bit_at old (location % 64) ≡ 0 = unset_bit width words row location within lacks in
      let one_bit : bit_at new (location % 64) ≡ 1 = bit_at_set_same w64 old (location % 64) (mod_below location 64 (omega arith)) in
      let apart : old ≡ new → ⊥ = λ e. let z : bit_at old (location % 64) ≡ 1 = ap (λ n. bit_at n (location % 64)) e ∙ one_bit in omega arith in
      let up : old ≤ new = le_or_l old _ in
      omega arith

  -- it takes room
  pub room_with_bit : IsFalse (shown width words row location) → get_or words (row * width + location / 64) 0 < 2 ^ 64 → sum_by (λ word. 2 ^ 64 - word) with_bit < sum_by (λ word. 2 ^ 64 - word) words
  room_with_bit lacks small =
      let grown = word_grows lacks in
      let total = sum_by-set (λ word. 2 ^ 64 - word) words (row * width + location / 64) (bit_or (get_or words (row * width + location / 64) 0) (1 * 2 ^ (location % 64) % 2 ^ 64)) 0 at_word in
      omega arith

-- ---- a row against another
module _ (width : ℕ) (words : List ℕ) (from to : ℕ) where
  -- of one word of both rows, the bits that the second lacks
  abbrev more_at : ℕ → ℕ
  more_at i = bit_and (get_or words (from * width + i) 0) (bit_not w64 (get_or words (to * width + i) 0))

  -- a word of the second row below 2 ^ 64
  fits_word : (i : ℕ) → ((k : ℕ) (d : ℕ) → k < length words → get_or words k d < 2 ^ 64) → to * width + i < length words → get_or words (to * width + i) 0 < 2 ^ 64
  fits_word i small h = small _ 0 h

  bit_more : (i k : ℕ) → get_or words (to * width + i) 0 < 2 ^ 64 → k < 64 → bit_at (more_at i) k ≡ min (bit_at (get_or words (from * width + i) 0) k) (1 - bit_at (get_or words (to * width + i) 0) k)
  bit_more i k small h = bit_at_and _ _ k ∙ ap (min (bit_at (get_or words (from * width + i) 0) k)) (bit_at_not w64 _ k small h)

  -- where a word has no more, its locations pass
  pub pass_none : (i l : ℕ) → get_or words (to * width + i) 0 < 2 ^ 64 → more_at i ≡ 0 → i < width → l / 64 ≡ i → Has (shown width words) from l → Has (shown width words) to l
  pass_none i l small none inside at h =
      let k : l % 64 < 64 = mod_below l 64 (omega arith) in
      let e = bit_more i (l % 64) small k in
      let zero_bit : bit_at (more_at i) (l % 64) ≡ 0 = ap (λ n. bit_at n (l % 64)) none ∙ bit_at-zero _ in
      let had : bit_at (get_or words (from * width + i) 0) (l % 64) ≡ 1 = ap (λ j. bit_at (get_or words (from * width + j) 0) (l % 64)) (sym at) ∙ bit_shown width words from l h in
      let small_to : bit_at (get_or words (to * width + i) 0) (l % 64) < 2 = bit_at-lt _ _ in
      let has_to : bit_at (get_or words (to * width + i) 0) (l % 64) ≡ 1 = omega arith in
      shown_from_bit width words to l (within_shown width words from l h) (ap (λ j. bit_at (get_or words (to * width + j) 0) (l % 64)) at ∙ has_to)

  module _ (i k : ℕ) (inside : i < width) (low : k < 64) (small : get_or words (to * width + i) 0 < 2 ^ 64) (bit : bit_at (more_at i) k ≡ 1) where
    place_word : (64 * i + k) / 64 ≡ i
    place_word = omega arith

    place_bit : (64 * i + k) % 64 ≡ k
    place_bit = omega arith

    both_bits : (bit_at (get_or words (from * width + i) 0) k ≡ 1) × (bit_at (get_or words (to * width + i) 0) k ≡ 0)
    both_bits =
        let e = bit_more i k small low in
        let a : bit_at (get_or words (from * width + i) 0) k < 2 = bit_at-lt _ _ in
        let b : bit_at (get_or words (to * width + i) 0) k < 2 = bit_at-lt _ _ in
        (omega arith, omega arith)

    at_place : (row : ℕ) → bit_of width words row (64 * i + k) ≡ bit_at (get_or words (row * width + i) 0) k
    at_place row = ap (λ j. bit_at (get_or words (row * width + j) 0) ((64 * i + k) % 64)) place_word ∙ ap (bit_at _) place_bit

    pub found_from : Has (shown width words) from (64 * i + k)
    found_from = shown_from_bit width words from (64 * i + k) (omega arith) (at_place from ∙ both_bits.0)

    pub lacks_to : IsFalse (shown width words to (64 * i + k))
    lacks_to = unshown_from_bit width words to (64 * i + k) (omega arith) (at_place to ∙ both_bits.1)

  -- the lowest bit that the second row lacks
  pub lowest_more : (i : ℕ) → get_or words (from * width + i) 0 < 2 ^ 64 → more_at i ≢ 0 → (trailing_zeros w64 (more_at i) < 64) × (bit_at (more_at i) (trailing_zeros w64 (more_at i)) ≡ 1)
  lowest_more i small some =
      let below : more_at i < 2 ^ 64 = let le = and_le_l (get_or words (from * width + i) 0) (bit_not w64 (get_or words (to * width + i) 0)) in omega arith in
      let positive : 0 < more_at i = omega arith in
      let t = bit_at-trailing_zeros w64 (more_at i) positive below in
      (t.0, t.1)

get_zero : (n i : ℕ) → get_or {A = ℕ} (replicate n 0) i 0 ≡ 0
get_zero zero i = refl
get_zero (suc n) zero = refl
get_zero (suc n) (suc i) = get_zero n i

-- words that are all 0 show nothing
pub zeros_show_nothing : (width n row location : ℕ) → Has (shown width (replicate n 0)) row location → ⊥
zeros_show_nothing width n row location h =
    let one : bit_of width (replicate n 0) row location ≡ 1 = bit_shown width (replicate n 0) row location h in
    let zero_bit : bit_of width (replicate n 0) row location ≡ 0 = ap (λ w. bit_at w (location % 64)) (get_zero n (row * width + location / 64)) ∙ bit_at-zero _ in
    absurd (omega arith)
