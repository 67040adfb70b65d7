-- What rows show that have the words of other rows.
use Rattle.std.proofs.Common.{◌≡◌, ℕ, zero, suc, ◌+◌, ◌*◌, ◌-◌, ◌/◌, ◌%◌, ◌<◌, ◌≤◌, ◌==◌, ◌&&◌, Bool, true, false, List, [], ◌∷◌, All, length, take, drop, get_or, refl, sym, ◌∙◌, ap, subst, inl, inr, arith}
use Rattle.std.specs.Prelude.{nat_lt}
use Rattle.std.specs.Int.{bit_at}
use Rattle.std.proofs.Math.Nat.{suc-mul, mul-le-mul_left}
use Rattle.std.proofs.lemmas.Bool.{cases_lt, ltb-true}
use Rattle.std.proofs.lemmas.List.{length-append, length-take-le, length-drop, get_or_past, get_or-take, get_or-drop}
use Rattle.std.proofs.lemmas.List.Concat.{get_or-flat_map}
use Rattle.std.proofs.lemmas.List.Elements.{All-cons}
use Rattle.std.proofs.lemmas.Nat.Bits.{bit_at-zero}
use Rattle.sol_model.specs.declared.system.System.{System}
use Rattle.sol_model.specs.declared.rows.Rows.{Rows}
use Rattle.sol_model.specs.Families.{HoldsRow, members, shown}
use Rattle.sol_model.specs.Systems.{IsValid, Fits, location_count, width_of}
use Rattle.row_share.specs.share_laws.Classes.{AreClasses}
use Rattle.row_share.specs.share_laws.Renumbering.{IsReduced, new_row}
use Rattle.row_share.proofs.share_laws.Numbers.{own_small}
use Rattle.row_share.proofs.share_laws.Valid.{number_in}
use Rattle.side_reports.specs.whole_rows.Expanded.{row_words, words_of}

-- ---- words
words_long : (rows : Rows) (row : ℕ) → HoldsRow rows row → length (row_words rows row) ≡ rows.width
words_long rows row holds = length-take-le rows.width (drop (row * rows.width) rows.words) (let l = length-drop (row * rows.width) rows.words in omega arith)

-- so many pieces of one length
pieces_long : (rows : Rows) (list : List ℕ) → All (HoldsRow rows) list → length (words_of rows list) ≡ length list * rows.width
pieces_long rows [] holds = let none : 0 ≡ 0 * rows.width = omega arith in none
pieces_long rows (row ∷ list) holds =
    length-append (row_words rows row) (words_of rows list)
    ∙ (let first = words_long rows row (holds 0 0 (omega arith)) in
    let rest = pieces_long rows list (λ k d lt. holds (suc k) d (omega arith)) in
    let more = suc-mul (length list) rows.width in
    omega (arith, first, rest, more))

all_taken : (rows : Rows) (list : List ℕ) (i : ℕ) → All (HoldsRow rows) list → All (HoldsRow rows) (take i list)
all_taken rows [] zero holds = holds
all_taken rows [] (suc i) holds = holds
all_taken rows (row ∷ list) zero holds = λ k d lt. absurd (omega arith)
all_taken rows (row ∷ list) (suc i) holds =
    All-cons (HoldsRow rows) row (take i list) (holds 0 row (omega arith)) (all_taken rows list i (λ k d lt. holds (suc k) d (omega arith)))

-- word j of row i
word_is : (rows : Rows) (list : List ℕ) (i j : ℕ) → All (HoldsRow rows) list → i < length list → j < rows.width
    → get_or (words_of rows list) (i * rows.width + j) 0 ≡ get_or rows.words (get_or list i i * rows.width + j) 0
word_is rows list i j holds lt within =
    let row : ℕ = get_or list i i in
    let held : HoldsRow rows row = holds i i lt in
    let piece = words_long rows row held in
    let before : length (words_of rows (take i list)) ≡ i * rows.width = pieces_long rows (take i list) (all_taken rows list i holds) ∙ ap (λ n. n * rows.width) (length-take-le i list (omega arith)) in
    ap (λ n. get_or (words_of rows list) (n + j) 0) (sym before)
    ∙ (get_or-flat_map (row_words rows) list i j i 0 lt (omega (arith, piece))
    ∙ (get_or-take rows.width (drop (row * rows.width) rows.words) j 0 within ∙ get_or-drop (row * rows.width) rows.words j 0))

-- ---- facts
shown_past : (width row location : ℕ) (words : List ℕ) → length words ≤ row * width → shown width words row location ≡ false
unfolding shown
shown_past width row location words past =
    let none : get_or words (row * width + location / 64) 0 ≡ 0 = get_or_past words (row * width + location / 64) 0 (omega arith) in
    rw (none, bit_at-zero (location % 64)) (by (nat_lt location (64 * width)))
  where
    by : (b : Bool) → (b && false) ≡ false
    by true = refl
    by false = refl

shown_same : (width row other location : ℕ) (words olds : List ℕ) → (location < 64 * width → get_or words (row * width + location / 64) 0 ≡ get_or olds (other * width + location / 64) 0)
    → shown width words row location ≡ shown width olds other location
unfolding shown
shown_same width row other location words olds same = by (nat_lt location (64 * width)) refl where
  by : (b : Bool) → nat_lt location (64 * width) ≡ b → (nat_lt location (64 * width) && (bit_at (get_or words (row * width + location / 64) 0) (location % 64) == 1)) ≡ (nat_lt location (64 * width) && (bit_at (get_or olds (other * width + location / 64) 0) (location % 64) == 1))
  by true h = ap (λ w. nat_lt location (64 * width) && (bit_at w (location % 64) == 1)) (same (ltb-true location (64 * width) h))
  by false h = ap (λ b. b && (bit_at (get_or words (row * width + location / 64) 0) (location % 64) == 1)) h ∙ sym (ap (λ b. b && (bit_at (get_or olds (other * width + location / 64) 0) (location % 64) == 1)) h)

-- an item whatever stands for what is missing
same_item : (xs : List ℕ) (k d e : ℕ) → k < length xs → get_or xs k d ≡ get_or xs k e
same_item [] k d e lt = absurd (omega arith)
same_item (x ∷ xs) zero d e lt = refl
same_item (x ∷ xs) (suc k) d e lt = same_item xs k d e (omega arith)

-- a family of the rows' words is that of the other rows, read through the numbers
module _ (S T : System) (of row words : List ℕ) (rows : Rows) (valid : IsValid S) (classes : AreClasses S of) (reduced : IsReduced S of row T) (fits : Fits T rows) (is : words ≡ words_of rows row) where
  width_is : rows.width ≡ width_of S
  width_is = fits.width ∙ ap (λ n. (n + 63) / 64) (ap length reduced.locations)

  old_long : length rows.words ≡ T.rows * rows.width
  old_long = fits.words ∙ ap (λ n. T.rows * n) (sym fits.width)

  pub all_hold : All (HoldsRow rows) row
  all_hold k d lt =
      let known : k < S.rows = (let c = reduced.numbers.count in omega arith) in
      let there : get_or row k d < T.rows = subst (λ n. n < T.rows) (same_item row k k d lt) (let n = number_in S of row valid classes reduced.numbers k known in let r = reduced.rows in omega arith) in
      let more = mul-le-mul_left rows.width there in
      let long = old_long in
      omega (arith, more, long)

  new_long : length words ≡ S.rows * rows.width
  new_long = ap length is ∙ (pieces_long rows row all_hold ∙ ap (λ n. n * rows.width) reduced.numbers.count)

  within : (old location : ℕ) → old < S.rows → shown rows.width words old location ≡ shown rows.width rows.words (new_row row old) location
  within old location known =
      shown_same rows.width old (new_row row old) location words rows.words
      (λ low. ap (λ ws. get_or ws (old * rows.width + location / 64) 0) is ∙ word_is rows row old (location / 64) all_hold (let c = reduced.numbers.count in omega arith) (omega arith))

  beyond : (old location : ℕ) → S.rows ≤ old → shown rows.width words old location ≡ shown rows.width rows.words (new_row row old) location
  beyond old location past =
      let itself : new_row row old ≡ old = get_or_past row old old (let c = reduced.numbers.count in omega arith) in
      let own = own_small (location_count S) of S.rows in
      let least = valid.rows in
      let is_rows = reduced.rows in
      let few : T.rows ≤ old = omega (arith, own, least, is_rows) in
      let one = mul-le-mul_left rows.width past in
      let other = mul-le-mul_left rows.width few in
      shown_past rows.width old location words (let l = new_long in omega (arith, one, l))
      ∙ sym (ap (λ r. shown rows.width rows.words r location) itself ∙ shown_past rows.width old location rows.words (let l = old_long in omega (arith, other, l)))

  same : (old location : ℕ) → shown rows.width words old location ≡ shown rows.width rows.words (new_row row old) location
  same old location = elim (cases_lt old S.rows) [ inl low ↦ within old location low | inr past ↦ beyond old location past ]

  pub family_is : shown rows.width words ≡ (λ old location. members rows (new_row row old) location)
  family_is = λ i old location. same old location i

  pub whole_fits : (whole : Rows) → whole.width ≡ rows.width → whole.words ≡ words → Fits S whole
  whole_fits whole width_same words_same = record {
    width = width_same ∙ width_is;
    words = ap length words_same ∙ (new_long ∙ ap (λ n. S.rows * n) width_is);
    no_others = λ r location has.
        (let shows : shown rows.width words r location ≡ true = sym (ap (λ w. shown w whole.words r location) width_same ∙ ap (λ ws. shown rows.width ws r location) words_same) ∙ has in
        let known = fits.no_others (new_row row r) location (sym (same r location) ∙ shows) in
        let count = ap length reduced.locations in
        omega (arith, known, count));
  }
