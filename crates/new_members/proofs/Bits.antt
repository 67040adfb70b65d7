-- Locations of rows as bits of words.
use Rattle.std.proofs.Common.{◌≡◌, ◌≢◌, ◌⊎◌, ◌↔◌, ℕ, ◌+◌, ◌*◌, ◌/◌, ◌%◌, ◌<◌, ◌≤◌, ◌^◌, List, [], length, get_or, set, bit_or, bit_and, Contains, refl, sym, ap, ◌∙◌, subst, inl, inr, arith, length-set}
use Rattle.std.specs.Int.{bit_at, bit_not, w64}
use Rattle.std.proofs.lemmas.Bool.{cases_lt}
use Rattle.std.proofs.lemmas.List.{get_or_past}
use Rattle.std.proofs.lemmas.Nat.{same_from_place}
use Rattle.std.proofs.lemmas.Nat.Bits.{bit_at_and, bit_at-lt, bit_at_not, bit_at-zero, bit_at_above}
use Rattle.sol_model.specs.declared.rows.Rows.{Rows}
use Rattle.sol_model.specs.Families.{Has, members, shown}
use Rattle.sol_model.proofs.Shown.{within_shown, bit_shown, shown_from_bit}
use Rattle.sol_model.proofs.Words.{or_has, or_keeps, or_adds}
use Rattle.new_members.specs.News.{AreAmong, IsIn}

-- a bit of one word that another lacks
pub new_bit : (w held x : ℕ) → held < 2 ^ 64 → x < 64 → bit_at (bit_and w (bit_not w64 held)) x ≡ 1 → (bit_at w x ≡ 1) × (bit_at held x ≡ 1 → ⊥)
new_bit w held x small lt h =
    let m = bit_at_and w (bit_not w64 held) x in
    let l = bit_at-lt w x in
    let k = bit_at-lt (bit_not w64 held) x in
    let n = bit_at_not w64 held x small lt in
    let j = bit_at-lt held x in
    (omega arith, λ has. omega arith)

pub new_bit_from : (w held x : ℕ) → w < 2 ^ 64 → held < 2 ^ 64 → bit_at w x ≡ 1 → bit_at held x ≢ 1 → (x < 64) × (bit_at (bit_and w (bit_not w64 held)) x ≡ 1)
new_bit_from w held x small held_small has lacks = elim (cases_lt x 64) [
  | inl lt ↦ (lt, (let m = bit_at_and w (bit_not w64 held) x in let l = bit_at-lt held x in let n = bit_at_not w64 held x held_small lt in omega arith))
  | inr ge ↦ absurd (let z = bit_at_above w 64 x small ge in omega arith)
]

-- the locations of the words from `first` on and below k that other words lack
abbrev pub IsListed : List ℕ → List ℕ → ℕ → ℕ → ℕ → Type 0
IsListed words without first k location = (location / 64 < k) × IsIn words location × (IsIn without location → ⊥) × (first ≤ location / 64)

abbrev pub Lists : List ℕ → (ℕ → Type 0) → Type 0
Lists list P = (location : ℕ) → Contains list location ↔ P location

pub listed_none : (words without : List ℕ) (first : ℕ) → Lists [] (IsListed words without first first)
listed_none words without first location = (λ h. absurd (let l = h.1 in omega arith), λ h. absurd (let l = h.0 in let m = h.3 in omega arith))

-- one word more, with something new
pub listed_word : (words without old new : List ℕ) (first k w held : ℕ) → first ≤ k → w ≡ get_or words k 0 → held ≡ get_or without k 0 → w < 2 ^ 64 → held < 2 ^ 64 → Lists old (IsListed words without first k)
    → ((location : ℕ) → Contains new location ↔ (Contains old location ⊎ ((x : ℕ) × (x < 64) × (bit_at (bit_and w (bit_not w64 held)) x ≡ 1) × (location ≡ 64 * k + x))))
    → Lists new (IsListed words without first (k + 1))
listed_word words without old new first k w held from is was small held_small so_far more location = (
  λ h. elim ((more location).0 h) [
    | inl o ↦ (let p = (so_far location).0 o in let l = p.0 in (omega arith, p.1, p.2, p.3))
    | inr b ↦ (let x : ℕ = b.0 in let lt : x < 64 = b.1 in let e : location ≡ 64 * k + x = b.3 in let n = new_bit w held x held_small lt b.2 in
        let word : location / 64 ≡ k = omega arith in let bit : location % 64 ≡ x = omega arith in (
          omega arith,
          subst (λ (j : ℕ). bit_at (get_or words j 0) (location % 64) ≡ 1) (sym word) (subst (λ (y : ℕ). bit_at (get_or words k 0) y ≡ 1) (sym bit) (ap (λ (v : ℕ). bit_at v x) (sym is) ∙ n.0)),
          λ has. n.1 (ap (λ (v : ℕ). bit_at v x) was ∙ subst (λ (y : ℕ). bit_at (get_or without k 0) y ≡ 1) bit (subst (λ (j : ℕ). bit_at (get_or without j 0) (location % 64) ≡ 1) word has)),
          omega arith,
        ))
  ],
  λ h. (more location).1 (elim (cases_lt (location / 64) k) [
    | inl lt ↦ inl ((so_far location).1 (lt, h.1, h.2, h.3))
    | inr ge ↦ (let l = h.0 in let word : location / 64 ≡ k = omega arith in
        let has : bit_at w (location % 64) ≡ 1 = ap (λ (v : ℕ). bit_at v (location % 64)) is ∙ subst (λ (j : ℕ). bit_at (get_or words j 0) (location % 64) ≡ 1) word h.1 in
        let lacks : bit_at held (location % 64) ≢ 1 = λ b. h.2 (subst (λ (j : ℕ). bit_at (get_or without j 0) (location % 64) ≡ 1) (sym word) (ap (λ (v : ℕ). bit_at v (location % 64)) (sym was) ∙ b)) in
        let n = new_bit_from w held (location % 64) small held_small has lacks in
        inr (location % 64, n.0, n.1, (let d = word in omega arith)))
  ]),
)

-- one word more, with nothing new
pub listed_same : (words without old : List ℕ) (first k w held : ℕ) → first ≤ k → w ≡ get_or words k 0 → held ≡ get_or without k 0 → w < 2 ^ 64 → held < 2 ^ 64 → bit_and w (bit_not w64 held) ≡ 0 → Lists old (IsListed words without first k)
    → Lists old (IsListed words without first (k + 1))
listed_same words without old first k w held from is was small held_small none so_far = listed_word words without old old first k w held from is was small held_small so_far (λ location. (
  λ h. inl h,
  λ h. elim h [ inl o ↦ o | inr b ↦ absurd (let z = bit_at-zero b.0 in let bit : bit_at 0 b.0 ≡ 1 = ap (λ (v : ℕ). bit_at v b.0) (sym none) ∙ b.2 in omega arith) ],
))

-- the words below the end
pub listed_end : (words without list : List ℕ) (first k end : ℕ) → k ≤ end → end ≤ k → Lists list (IsListed words without first k)
    → Lists list (λ location. IsIn words location × (IsIn without location → ⊥) × (first ≤ location / 64) × (location / 64 < end))
listed_end words without list first k end within past so_far location = (
  λ h. (let p = (so_far location).0 h in let l = p.0 in (p.1, p.2, p.3, omega arith)),
  λ h. (so_far location).1 (let l = h.3 in (omega arith, h.0, h.1, h.2)),
)

-- all words
pub listed_all : (words without list : List ℕ) → Lists list (λ location. IsIn words location × (IsIn without location → ⊥) × (0 ≤ location / 64) × (location / 64 < length words))
    → Lists list (λ location. IsIn words location × (IsIn without location → ⊥))
listed_all words without list all location = (
  λ h. (let p = (all location).0 h in (p.0, p.1)),
  λ h. (all location).1 (
    h.0,
    h.1,
    omega arith,
    elim (cases_lt (location / 64) (length words)) [
      | inl lt ↦ lt
      | inr ge ↦ absurd (let z = bit_at-zero (location % 64) in let none : get_or words (location / 64) 0 ≡ 0 = get_or_past words (location / 64) 0 (omega arith) in
          let bit : bit_at 0 (location % 64) ≡ 1 = ap (λ (v : ℕ). bit_at v (location % 64)) (sym none) ∙ h.0 in omega arith)
    ],
  ),
)

-- the bits of a word below k, counted on from a base
abbrev pub Grows : List ℕ → List ℕ → ℕ → ℕ → ℕ → Type 0
Grows old new word base k = (location : ℕ) → Contains new location ↔ (Contains old location ⊎ ((x : ℕ) × (x < k) × (bit_at word x ≡ 1) × (location ≡ base + x)))

-- the words of a row
pub row_has : (rows : Rows) (row : ℕ) (words : List ℕ) → length words ≡ rows.width → ((k : ℕ) → k < rows.width → get_or words k 0 ≡ get_or rows.words (row * rows.width + k) 0)
    → (location : ℕ) → (Has (members rows) row location ↔ IsIn words location)
row_has rows row words sized same location =
    let W : ℕ = rows.width in (
      λ h. (let small = within_shown W rows.words row location h in
          ap (λ (v : ℕ). bit_at v (location % 64)) (same (location / 64) (omega arith)) ∙ bit_shown W rows.words row location h),
      λ h. elim (cases_lt (location / 64) W) [
        | inl lt ↦ shown_from_bit W rows.words row location (omega arith) (ap (λ (v : ℕ). bit_at v (location % 64)) (sym (same (location / 64) lt)) ∙ h)
        | inr ge ↦ absurd (let z = bit_at-zero (location % 64) in let none : get_or words (location / 64) 0 ≡ 0 = get_or_past words (location / 64) 0 (omega arith) in
            let bit : bit_at 0 (location % 64) ≡ 1 = ap (λ (v : ℕ). bit_at v (location % 64)) (sym none) ∙ h in omega arith)
      ],
    )

-- k words were added to a row
pub record Added (W row k : ℕ) (words old new : List ℕ) : Type 0 where
  pub sized : length new ≡ length old
  pub only : (other location : ℕ) → Has (shown W new) other location → Has (shown W old) other location ⊎ ((other ≡ row) × IsIn words location)
  pub keeps : (other location : ℕ) → Has (shown W old) other location → Has (shown W new) other location
  pub adds : (location : ℕ) → location / 64 < k → IsIn words location → Has (shown W new) row location

pub added_none : (W row first end : ℕ) (words old : List ℕ) → AreAmong (shown W old) row words first end → Added W row first words old old
added_none W row first end words old among = record { sized = refl; only = λ other location h. inl h; keeps = λ other location h. h; adds = λ location lt h. among location h (inl lt) }

pub added_word : (W row k : ℕ) (words old mid : List ℕ) → k < W → row * W + k < length mid → Added W row k words old mid
    → Added W row (k + 1) words old (set mid (row * W + k) (bit_or (get_or mid (row * W + k) 0) (get_or words k 0)))
added_word W row k words old mid lt there a =
    let i : ℕ = row * W + k in
    let mask : ℕ = get_or words k 0 in record {
      sized = length-set mid i (bit_or (get_or mid i 0) mask) ∙ a.sized;
      only = λ other location h. elim (or_has W mid i mask other location there h) [
        | inl o ↦ a.only other location o
        | inr at ↦ (let place = same_from_place other (location / 64) row k W (let s = at.0 in omega arith) lt at.1 in
            inr (place.0, subst (λ (j : ℕ). bit_at (get_or words j 0) (location % 64) ≡ 1) (sym place.1) at.2))
      ];
      keeps = λ other location h. or_keeps W mid i mask there other location (a.keeps other location h);
      adds = λ location l h. elim (cases_lt (location / 64) k) [
        | inl before ↦ or_keeps W mid i mask there row location (a.adds location before h)
        | inr ge ↦ (let word : location / 64 ≡ k = omega arith in
            or_adds W mid i mask row location there (omega arith, ap (λ (j : ℕ). row * W + j) word, subst (λ (j : ℕ). bit_at (get_or words j 0) (location % 64) ≡ 1) word h))
      ];
    }
