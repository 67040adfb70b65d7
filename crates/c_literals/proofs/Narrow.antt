-- A string literal that isn't wide stands for bytes.
use Rattle.std.proofs.Common.{◌≡◌, ℕ, zero, suc, ◌+◌, ◌-◌, ◌<◌, ◌≤◌, true, false, not, eqb, ◌&&◌, List, ◌∷◌, length, take, drop, get_or, refl, sym, ap, ◌∙◌, subst, inl, inr, arith, add-one}
use Rattle.std.proofs.lemmas.List.{drop_more, drop-take, drop-drop, get_or-drop, length-drop}
use Rattle.std.proofs.lemmas.List.Elements.{All-nil, All-cons, All-same, All-drop}
use Rattle.std.proofs.lemmas.Bool.{cases_lt, cases_eq, cases_Bool, and_from, and_right, not_from_false, ne_eqb, eq-eqb, both_ways}
use Rattle.c_lexer.specs.Quotes.{is_escaped}
use Rattle.c_lexer.specs.Escapes.{IsBad, is_escape}
use Rattle.c_senses.specs.Literals.{bytes_of, escape_byte, escape_length}
use Rattle.c_literals.specs.Laws.{AreBytes}
use Rattle.c_literals.proofs.Inside.{bytes_of-escape, bytes_of-plain}
use Rattle.c_literals.proofs.Stops.{byte_small, Upto, byte_upto, length_upto, escape_small, escape_within, Ends, digit, alone, escape_ends}

-- which bytes a backslash escapes
not_escaped : (text : List ℕ) (inside j : ℕ) → (get_or text (inside + j) 0 ≡ 92 → ⊥) → is_escaped text inside (suc j) ≡ false
unfolding is_escaped
not_escaped text inside j h = rw (ne_eqb (get_or text (inside + j) 0) 92 h) refl

escaped : (text : List ℕ) (inside j : ℕ) → get_or text (inside + j) 0 ≡ 92 → is_escaped text inside j ≡ false → is_escaped text inside (suc j) ≡ true
unfolding is_escaped
escaped text inside j h e = and_from (eqb (get_or text (inside + j) 0) 92) (not (is_escaped text inside j)) (eq-eqb (get_or text (inside + j) 0) 92 h) (not_from_false (is_escaped text inside j) e)

behind_escaped : (text : List ℕ) (inside j : ℕ) → is_escaped text inside j ≡ true → is_escaped text inside (suc j) ≡ false
unfolding is_escaped
behind_escaped text inside j e = and_right (eqb (get_or text (inside + j) 0) 92) (not (is_escaped text inside j)) (ap not e)

-- a closed literal of so many bytes, without a bad escape, whose quote is that of a string
pub record IsNarrow (text : List ℕ) (inside n : ℕ) : Type 0 where
  pub within : inside + n < length text
  pub quote : get_or text (inside + n) 0 ≡ 34
  pub closes : is_escaped text inside n ≡ false
  pub good : (i : ℕ) → i < n → IsBad false text inside i → ⊥

escape_good : (text : List ℕ) (inside i : ℕ) → get_or text (inside + i) 0 ≡ 92 → is_escaped text inside i ≡ false → (IsBad false text inside i → ⊥) → is_escape false (drop (inside + i + 1) text) ≡ true
escape_good text inside i h e good =
    let ys = drop (inside + i + 1) text in
    let begins = eqb (get_or text (inside + i) 0) 92 in
    let free = not (is_escaped text inside i) in
    elim (cases_Bool (is_escape false ys)) [
      | inl g ↦ g
      | inr g ↦
          absurd (good (and_from (begins && free) (not (is_escape false ys)) (and_from begins free (eq-eqb (get_or text (inside + i) 0) 92 h) (not_from_false (is_escaped text inside i) e)) (not_from_false (is_escape false ys) g)))
    ]

nothing : (xs : List ℕ) (k : ℕ) → k ≡ 0 → AreBytes (bytes_of (take k xs))
nothing xs k e = subst (λ j. AreBytes (bytes_of (take j xs))) (sym e) (All-nil (λ b. b < 256))

module _ (text : List ℕ) (inside n : ℕ) (is : IsNarrow text inside n) (all : AreBytes text) where
  abbrev left : ℕ → List ℕ
  left m = take (n - m) (drop (inside + m) text)

  -- the byte at a place, and what is left behind it
  next_left : (m : ℕ) → m < n → left m ≡ get_or text (inside + m) 0 ∷ take (n - (m + 1)) (drop (inside + m + 1) text)
  next_left m h =
      let more : n - m ≡ suc (n - (m + 1)) = omega arith in
      ap (λ xs. take (n - m) xs) (drop_more text (inside + m) 0 (let w = is.within in omega arith)) ∙ ap (λ k. take k (get_or text (inside + m) 0 ∷ drop (inside + m + 1) text)) more

  upto : (m : ℕ) → m < n → Upto (n - (m + 1)) (drop (inside + m + 1) text)
  upto m h =
      let at : inside + m + 1 + (n - (m + 1)) ≡ inside + n = omega arith in
      record {
        within = omega (arith, length-drop (inside + m + 1) text, is.within);
        quote = get_or-drop (inside + m + 1) text (n - (m + 1)) 0 ∙ (ap (λ i. get_or text i 0) at ∙ is.quote);
      }

  -- a backslash that escapes stands before another byte of the literal
  some_left : (m : ℕ) → m < n → get_or text (inside + m) 0 ≡ 92 → is_escaped text inside m ≡ false → 0 < n - (m + 1)
  some_left m h c e =
      elim (cases_lt 0 (n - (m + 1))) [
        | inl s ↦ s
        | inr z ↦ let last : n ≡ suc m = omega arith in absurd (both_ways (is_escaped text inside n) is.closes (ap (is_escaped text inside) last ∙ escaped text inside m c e))
      ]

  -- an escape ends before a byte that isn't escaped
  free_behind : (m size : ℕ) → get_or text (inside + m) 0 ≡ 92 → is_escaped text inside m ≡ false → Ends (drop (inside + m + 1) text) size → is_escaped text inside (m + 1 + size) ≡ false
  free_behind m size c e (digit j long other) =
      let place : m + 1 + size ≡ suc (m + 1 + j) = omega arith in
      let at : inside + m + 1 + j ≡ inside + (m + 1 + j) = omega arith in
      ap (is_escaped text inside) place
      ∙ not_escaped text inside (m + 1 + j) (λ h. other (get_or-drop (inside + m + 1) text j 0 ∙ (ap (λ i. get_or text i 0) at ∙ h)))
  free_behind m size c e (alone long) =
      let place : m + 1 + size ≡ suc (suc m) = omega arith in
      ap (is_escaped text inside) place ∙ behind_escaped text inside (suc m) (escaped text inside m c e)

  -- what is left behind an escape
  left_behind : (m size : ℕ) → m < n → size ≤ n - (m + 1) → drop size (take (n - (m + 1)) (drop (inside + m + 1) text)) ≡ left (m + 1 + size)
  left_behind m size h l =
      let next = m + 1 + size in
      let ys = drop (inside + m + 1) text in
      let parts : n - (m + 1) ≡ size + (n - next) = omega arith in
      let place : inside + m + 1 + size ≡ inside + next = omega arith in
      ap (λ k. drop size (take k ys)) parts
      ∙ (drop-take size (n - next) ys ∙ ap (λ xs. take (n - next) xs) (drop-drop size (inside + m + 1) text ∙ ap (λ i. drop i text) place))

  pub narrow : (fuel m : ℕ) → n ≤ m + fuel → m ≤ n → is_escaped text inside m ≡ false → AreBytes (bytes_of (left m))
  narrow zero m f l e = nothing (drop (inside + m) text) (n - m) (omega arith)
  narrow (suc fuel) m f l e =
      elim (cases_lt m n) [
        | inr past ↦ nothing (drop (inside + m) text) (n - m) (omega arith)
        | inl h ↦
            elim (cases_eq (get_or text (inside + m) 0) 92) [
              | inl c ↦
                  let k = n - (m + 1) in
                  let ys = drop (inside + m + 1) text in
                  let size = escape_length ys in
                  let u = upto m h in
                  let some = some_left m h c e in
                  let good = escape_good text inside m c e (is.good m h) in
                  let fits : size ≤ k = escape_within k ys u some in
                  let tail = narrow fuel (m + 1 + size) (omega arith) (omega arith) (free_behind m size c e (escape_ends ys good)) in
                  let byte : escape_byte (take k ys) < 256 = subst (λ v. v < 256) (sym (byte_upto k ys u some)) (escape_small ys (All-drop (λ b. b < 256) (inside + m + 1) text all) good) in
                  let behind : drop (escape_length (take k ys)) (take k ys) ≡ left (m + 1 + size) = ap (λ s. drop s (take k ys)) (length_upto k ys u some) ∙ left_behind m size h fits in
                  let whole = ap bytes_of (next_left m h) ∙ (ap (λ x. bytes_of (x ∷ take k ys)) c ∙ (bytes_of-escape (take k ys) ∙ ap (λ xs. escape_byte (take k ys) ∷ bytes_of xs) behind)) in
                  All-same (λ b. b < 256) (bytes_of (left m)) (escape_byte (take k ys) ∷ bytes_of (left (m + 1 + size))) whole (All-cons (λ b. b < 256) (escape_byte (take k ys)) (bytes_of (left (m + 1 + size))) byte tail)
              | inr c ↦
                  let byte = get_or text (inside + m) 0 in
                  let tail = narrow fuel (m + 1) (omega arith) (omega arith) (ap (is_escaped text inside) (add-one m) ∙ not_escaped text inside m c) in
                  let place : inside + m + 1 ≡ inside + (m + 1) = omega arith in
                  let whole = ap bytes_of (next_left m h) ∙ (bytes_of-plain byte (take (n - (m + 1)) (drop (inside + m + 1) text)) c ∙ ap (λ i. byte ∷ bytes_of (take (n - (m + 1)) (drop i text))) place) in
                  All-same (λ b. b < 256) (bytes_of (left m)) (byte ∷ bytes_of (left (m + 1))) whole (All-cons (λ b. b < 256) byte (bytes_of (left (m + 1))) (byte_small text (inside + m) all) tail)
            ]
      ]
