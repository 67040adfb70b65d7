-- The members of a row, a word at a time.
use Rattle.std.proofs.Common.{◌≡◌, ℕ, ◌+◌, ◌-◌, ◌*◌, ◌/◌, ◌%◌, ◌^◌, ◌<◌, ◌≤◌, eqb, Bool, true, cond, List, [], ◌∷◌, ◌++◌, get_or, refl, sym, ◌∙◌, ap, inl, inr, arith, append_assoc, append-nil}
use Rattle.std.specs.Int.{bit_at, trailing_zeros, w64}
use Rattle.std.specs.List.{filter, range_with_len}
use Rattle.std.proofs.lemmas.Bool.{eq-eqb, ne_eqb, cases_lt}
use Rattle.std.proofs.lemmas.Nat.{shr-shr, shr_le}
use Rattle.std.proofs.lemmas.Nat.Bits.{bit_at-zero, bit_at_above, bit_at-trailing_zeros}
use Rattle.sol_model.specs.Families.{shown}
use Rattle.sol_model.proofs.Shown.{shown_bit}
use Rattle.call_graph.specs.row_members.Words.{has_bit}
use Rattle.call_graph.proofs.row_members.Ranges.{filter_split, filter_range_more, filter_none, filter_same}

-- the bits of what is left of a word
shifted : (word next i : ℕ) → bit_at (word / 2 ^ next) i ≡ bit_at word (next + i)
shifted word next i = ap (λ (x : ℕ). x % 2) (shr-shr word next i)

-- what is left of a word is no larger
pub left_fits : (word next left : ℕ) → word < 2 ^ 64 → left ≡ word / 2 ^ next → left < 2 ^ 64
left_fits word next left small e = let le : word / 2 ^ next ≤ word = shr_le word next in omega arith

-- the next bit that is set
pub record IsNext (word next gap : ℕ) : Type 0 where
  pub within : next + gap < 64
  pub set : bit_at word (next + gap) ≡ 1
  pub none : (k : ℕ) → next ≤ k → k < next + gap → bit_at word k ≡ 0

within_of : (word k : ℕ) → word < 2 ^ 64 → bit_at word k ≡ 1 → k < 64
within_of word k small set = elim (cases_lt k 64) [
  | inl lt ↦ lt
  | inr ge ↦ absurd (let z = bit_at_above word 64 k small ge in omega arith)
]

pub next_bit : (word next left gap : ℕ) → word < 2 ^ 64 → left < 2 ^ 64 → 0 < left → gap ≡ trailing_zeros w64 left → left ≡ word / 2 ^ next → IsNext word next gap
next_bit word next left gap small fits some is e =
    let t = bit_at-trailing_zeros w64 left some fits in
    let set : bit_at word (next + gap) ≡ 1 = sym (shifted word next gap) ∙ ap (λ (n : ℕ). bit_at n gap) (sym e) ∙ ap (bit_at left) is ∙ t.1 in
    record {
      within = within_of word (next + gap) small set;
      set = set;
      none = λ k low high.
          let place : next + (k - next) ≡ k = omega arith in
          ap (bit_at word) (sym place) ∙ sym (shifted word next (k - next)) ∙ ap (λ (n : ℕ). bit_at n (k - next)) (sym e) ∙ t.2 (k - next) (omega arith);
    }

-- a list that gets the next bit
pub bits_more : (word base next gap : ℕ) (before so_far after : List ℕ) → IsNext word next gap → so_far ≡ before ++ filter (has_bit word base) (range_with_len base next)
    → after ≡ so_far ++ (base + (next + gap)) ∷ [] → after ≡ before ++ filter (has_bit word base) (range_with_len base (next + gap + 1))
bits_more word base next gap before so_far after n e more =
    let p : ℕ → Bool = has_bit word base in
    let there : ℕ = base + (next + gap) in
    let off : there - base ≡ next + gap = omega arith in
    let yes : p there ≡ true = eq-eqb _ _ (ap (bit_at word) off ∙ n.set) in
    let nothing : filter p (range_with_len (base + next) gap) ≡ [] =
    filter_none p (base + next) gap (λ k low high. ne_eqb _ _ (λ one. let z : bit_at word (k - base) ≡ 0 = n.none (k - base) (omega arith) (omega arith) in omega arith)) in
    let front : filter p (range_with_len base (next + gap)) ≡ filter p (range_with_len base next) =
    filter_split p base next gap (base + next) (next + gap) refl refl ∙ ap (λ (rest : List ℕ). filter p (range_with_len base next) ++ rest) nothing ∙ append-nil (filter p (range_with_len base next)) in
    let whole : filter p (range_with_len base (next + gap + 1)) ≡ filter p (range_with_len base next) ++ there ∷ [] =
    filter_range_more p base (next + gap) there refl ∙ ap (λ (b : Bool). filter p (range_with_len base (next + gap)) ++ cond b (there ∷ []) []) yes ∙ ap (λ (rest : List ℕ). rest ++ there ∷ []) front in
    more ∙ ap (λ (xs : List ℕ). xs ++ there ∷ []) e ∙ append_assoc before (filter p (range_with_len base next)) (there ∷ []) ∙ ap (λ (rest : List ℕ). before ++ rest) (sym whole)

-- what is left behind the next bit
pub left_more : (word next gap left after : ℕ) → left ≡ word / 2 ^ next → after ≡ left / 2 ^ gap / 2 ^ 1 → after ≡ word / 2 ^ (next + gap + 1)
left_more word next gap left after e f =
    f ∙ ap (λ (n : ℕ). n / 2 ^ gap / 2 ^ 1) e ∙ ap (λ (n : ℕ). n / 2 ^ 1) (shr-shr word next gap) ∙ shr-shr word (next + gap) 1

-- nothing is left
pub bits_all : (word base next left : ℕ) (before so_far : List ℕ) → next ≤ 64 → left ≡ 0 → left ≡ word / 2 ^ next → so_far ≡ before ++ filter (has_bit word base) (range_with_len base next)
    → so_far ≡ before ++ filter (has_bit word base) (range_with_len base 64)
bits_all word base next left before so_far le empty e so =
    let p : ℕ → Bool = has_bit word base in
    let rest : ℕ = 64 - next in
    let nothing : filter p (range_with_len (base + next) rest) ≡ [] =
    filter_none p (base + next) rest (λ k low high. ne_eqb _ _ (λ one.
    let place : next + (k - base - next) ≡ k - base = omega arith in
    let z : bit_at word (k - base) ≡ 0 = ap (bit_at word) (sym place) ∙ sym (shifted word next (k - base - next)) ∙ ap (λ (n : ℕ). bit_at n (k - base - next)) (sym e ∙ empty) ∙ bit_at-zero (k - base - next) in
    omega arith)) in
    let whole : filter p (range_with_len base 64) ≡ filter p (range_with_len base next) =
    filter_split p base next rest (base + next) 64 refl (omega arith) ∙ ap (λ (more : List ℕ). filter p (range_with_len base next) ++ more) nothing ∙ append-nil (filter p (range_with_len base next)) in
    so ∙ ap (λ (xs : List ℕ). before ++ xs) (sym whole)

-- ---- words
-- the members of a row in one word
in_word : (width : ℕ) (words : List ℕ) (row number word : ℕ) → number < width → word ≡ get_or words (row * width + number) 0
    → filter (has_bit word (64 * number)) (range_with_len (64 * number) 64) ≡ filter (shown width words row) (range_with_len (64 * number) 64)
in_word width words row number word lt is = filter_same (has_bit word (64 * number)) (shown width words row) (64 * number) 64 (λ k low high.
    let place : k / 64 ≡ number = omega arith in
    let bit : k % 64 ≡ k - 64 * number = omega arith in
    sym (shown_bit width words row k (omega arith)
    ∙ ap (λ (j : ℕ). eqb (bit_at (get_or words (row * width + j) 0) (k % 64)) 1) place
    ∙ ap (λ (w : ℕ). eqb (bit_at w (k % 64)) 1) (sym is)
    ∙ ap (λ (i : ℕ). eqb (bit_at word i) 1) bit))

-- one word more
pub word_more : (width : ℕ) (words : List ℕ) (row number word : ℕ) (so_far after : List ℕ) → number < width → word ≡ get_or words (row * width + number) 0
    → so_far ≡ filter (shown width words row) (range_with_len 0 (64 * number)) → after ≡ so_far ++ filter (has_bit word (64 * number)) (range_with_len (64 * number) 64)
    → after ≡ filter (shown width words row) (range_with_len 0 (64 * (number + 1)))
word_more width words row number word so_far after lt is e more =
    let p : ℕ → Bool = shown width words row in
    more ∙ ap (λ (xs : List ℕ). xs ++ filter (has_bit word (64 * number)) (range_with_len (64 * number) 64)) e
    ∙ ap (λ (xs : List ℕ). filter p (range_with_len 0 (64 * number)) ++ xs) (in_word width words row number word lt is)
    ∙ sym (filter_split p 0 (64 * number) 64 (64 * number) (64 * (number + 1)) (omega arith) (omega arith))

-- a word that is zero
pub word_none : (width : ℕ) (words : List ℕ) (row number word : ℕ) (so_far : List ℕ) → number < width → word ≡ get_or words (row * width + number) 0 → word ≡ 0
    → so_far ≡ filter (shown width words row) (range_with_len 0 (64 * number)) → so_far ≡ filter (shown width words row) (range_with_len 0 (64 * (number + 1)))
word_none width words row number word so_far lt is empty e =
    word_more width words row number word so_far so_far lt is e
    (sym (append-nil so_far) ∙ ap (λ (xs : List ℕ). so_far ++ xs) (sym (filter_none (has_bit word (64 * number)) (64 * number) 64
    (λ k low high. ne_eqb _ _ (λ one. let z : bit_at word (k - 64 * number) ≡ 0 = ap (λ (w : ℕ). bit_at w (k - 64 * number)) empty ∙ bit_at-zero (k - 64 * number) in omega arith)))))
