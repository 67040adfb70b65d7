-- What stands before a closing quote is not changed by what follows the quote: digits and escapes.
use Rattle.std.proofs.Common.{◌≡◌, ℕ, zero, suc, ◌+◌, ◌-◌, ◌<◌, ◌≤◌, Bool, true, false, cond, min, eqb, ltb, List, [], ◌∷◌, length, take, drop, get_or, slice_index, refl, sym, ap, ◌∙◌, inl, inr, arith}
use Rattle.std.specs.List.{prefix_len}
use Rattle.std.proofs.lemmas.List.{take-take, drop-take, get_or-take, get_or-drop, length-drop, get_or_past}
use Rattle.std.proofs.lemmas.List.Sums.{prefix_len_passes}
use Rattle.std.proofs.lemmas.Bool.{cond-false, and_parts, ltb-true, cases_lt}
use Rattle.c_lexer.specs.declared.numbers.Base.{Base}
use Rattle.c_lexer.specs.declared.numbers.Base.TheVariants.{Octal, Decimal, Hexadecimal}
use Rattle.c_lexer.specs.Bytes.{is_digit, is_octal_digit, is_hexadecimal_digit}
use Rattle.c_lexer.specs.Numbers.{is_digit_of, digit_count, radix, value, value_on}
use Rattle.c_lexer.specs.Escapes.{octal_value, is_octal_escape, is_hexadecimal_escape, is_simple_escape, is_escape}
use Rattle.c_senses.specs.Literals.{escape_byte, escape_length, simple_escape}
use Rattle.c_literals.specs.Laws.{AreBytes}

-- a byte of a list of bytes, or 0 behind its end
pub byte_small : (xs : List ℕ) (i : ℕ) → AreBytes xs → get_or xs i 0 < 256
byte_small xs i all =
    elim (cases_lt i (length xs)) [ inl h ↦ all i 0 h | inr h ↦ rw (get_or_past xs i 0 h) (omega arith) ]

-- the quote and the backslash are no digits
quote_34 : (b : Base) → is_digit_of b 34 ≡ false
unfolding is_digit is_octal_digit is_hexadecimal_digit
quote_34 Octal = refl
quote_34 Decimal = refl
quote_34 Hexadecimal = refl

backslash_92 : (b : Base) → is_digit_of b 92 ≡ false
unfolding is_digit is_octal_digit is_hexadecimal_digit
backslash_92 Octal = refl
backslash_92 Decimal = refl
backslash_92 Hexadecimal = refl

pub no_backslash : (b : Base) (c : ℕ) → is_digit_of b c ≡ true → c ≡ 92 → ⊥
no_backslash b c e h = let f : is_digit_of b c ≡ false = ap (is_digit_of b) h ∙ backslash_92 b in cc

-- how many pass from the front on is told before one that doesn't
at_most : (b : Bool) (n k : ℕ) → n ≤ k → cond b (1 + n) 0 ≤ suc k
at_most true n k h = omega arith
at_most false n k h = omega arith

stops : (p : ℕ → Bool) (k : ℕ) (ys : List ℕ) → k < length ys → p (get_or ys k 0) ≡ false → (prefix_len p (take k ys) ≡ prefix_len p ys) × (prefix_len p ys ≤ k)
stops p k [] h e = absurd (omega arith)
stops p zero (y ∷ ys) h e = let f = cond-false (p y) (1 + prefix_len p ys) 0 e in (sym f, omega arith)
stops p (suc k) (y ∷ ys) h e =
    let r = stops p k ys (omega arith) e in
    (ap (λ n. cond (p y) (1 + n) 0) r.0, at_most (p y) (prefix_len p ys) k r.1)

-- which value and which length an escape has
abbrev picked : ℕ → ℕ → ℕ → ℕ → ℕ
picked count octal first hexadecimal = cond (ltb 0 count) octal (cond (eqb first 120) hexadecimal (simple_escape first))

abbrev long : ℕ → ℕ → ℕ → ℕ
long count first hexadecimal = cond (ltb 0 count) (min count 3) (cond (eqb first 120) (1 + hexadecimal) 1)

-- the bytes up to a closing quote, of some bytes
pub record Upto (k : ℕ) (ys : List ℕ) : Type 0 where
  pub within : k < length ys
  pub quote : get_or ys k 0 ≡ 34

module _ (k : ℕ) (ys : List ℕ) (u : Upto k ys) where
  count_stops : (b : Base) → (digit_count b (take k ys) ≡ digit_count b ys) × (digit_count b ys ≤ k)
  count_stops b = stops (is_digit_of b) k ys u.within (ap (is_digit_of b) u.quote ∙ quote_34 b)

  pub count_upto : (b : Base) → digit_count b (take k ys) ≡ digit_count b ys
  count_upto b = (count_stops b).0

  pub count_within : (b : Base) → digit_count b ys ≤ k
  count_within b = (count_stops b).1

  value_upto : (b : Base) → value b (take k ys) ≡ value b ys
  value_upto b =
      ap (λ d. value_on (radix b) 0 (take d (take k ys))) (count_upto b) ∙ ap (value_on (radix b) 0) (take-take (digit_count b ys) k ys (count_within b))

  octal_upto : octal_value (take k ys) ≡ octal_value ys
  octal_upto =
      ap (λ d. value_on 8 0 (take (min d 3) (take k ys))) (count_upto Octal)
      ∙ ap (value_on 8 0) (take-take (min (digit_count Octal ys) 3) k ys (let h = count_within Octal in omega arith))

  -- behind the first byte
  pub behind : 0 < k → Upto (k - 1) (drop 1 ys)
  behind h =
      let less : 1 + (k - 1) ≡ k = omega arith in
      record {
        within = omega (arith, length-drop 1 ys, u.within);
        quote = get_or-drop 1 ys (k - 1) 0 ∙ (ap (λ n. get_or ys n 0) less ∙ u.quote);
      }

  rest_upto : 0 < k → drop 1 (take k ys) ≡ take (k - 1) (drop 1 ys)
  rest_upto h =
      let less : k ≡ 1 + (k - 1) = omega arith in
      ap (λ n. drop 1 (take n ys)) less ∙ drop-take 1 (k - 1) ys

  first_upto : 0 < k → slice_index (take k ys) 0 ≡ slice_index ys 0
  first_upto h = get_or-take k ys 0 0 h

module _ (k : ℕ) (ys : List ℕ) (u : Upto k ys) (some : 0 < k) where
  hexadecimal_upto : value Hexadecimal (drop 1 (take k ys)) ≡ value Hexadecimal (drop 1 ys)
  hexadecimal_upto = ap (value Hexadecimal) (rest_upto k ys u some) ∙ value_upto (k - 1) (drop 1 ys) (behind k ys u some) Hexadecimal

  hexadecimal_count : digit_count Hexadecimal (drop 1 (take k ys)) ≡ digit_count Hexadecimal (drop 1 ys)
  hexadecimal_count = ap (digit_count Hexadecimal) (rest_upto k ys u some) ∙ count_upto (k - 1) (drop 1 ys) (behind k ys u some) Hexadecimal

  pub byte_upto : escape_byte (take k ys) ≡ escape_byte ys
  byte_upto =
      ap (λ d. picked d (octal_value (take k ys)) (slice_index (take k ys) 0) (value Hexadecimal (drop 1 (take k ys)))) (count_upto k ys u Octal)
      ∙ (ap (λ o. picked (digit_count Octal ys) o (slice_index (take k ys) 0) (value Hexadecimal (drop 1 (take k ys)))) (octal_upto k ys u)
      ∙ (ap (λ f. picked (digit_count Octal ys) (octal_value ys) f (value Hexadecimal (drop 1 (take k ys)))) (first_upto k ys u some)
      ∙ ap (λ v. picked (digit_count Octal ys) (octal_value ys) (slice_index ys 0) v) hexadecimal_upto))

  pub length_upto : escape_length (take k ys) ≡ escape_length ys
  length_upto =
      ap (λ d. long d (slice_index (take k ys) 0) (digit_count Hexadecimal (drop 1 (take k ys)))) (count_upto k ys u Octal)
      ∙ (ap (λ f. long (digit_count Octal ys) f (digit_count Hexadecimal (drop 1 (take k ys)))) (first_upto k ys u some)
      ∙ ap (λ d. long (digit_count Octal ys) (slice_index ys 0) d) hexadecimal_count)

-- an escape that isn't wide stands for a byte
small_cond : (b : Bool) (x y : ℕ) → x < 256 → y < 256 → cond b x y < 256
small_cond true x y h k = h
small_cond false x y h k = k

simple_small : (c : ℕ) → c < 256 → simple_escape c < 256
simple_small c h =
    small_cond (eqb c 97) 7 _ (omega arith) (small_cond (eqb c 98) 8 _ (omega arith) (small_cond (eqb c 102) 12 _ (omega arith) (small_cond (eqb c 110) 10 _ (omega arith)
    (small_cond (eqb c 114) 13 _ (omega arith) (small_cond (eqb c 116) 9 _ (omega arith) (small_cond (eqb c 118) 11 c (omega arith) h))))))

small_pick : (b c p q r : Bool) (o v f : ℕ) → (p ≡ true → o < 256) → (q ≡ true → v < 256) → f < 256 → cond b p (cond c q r) ≡ true → cond b o (cond c v f) < 256
small_pick true c p q r o v f x y z e = x e
small_pick false true p q r o v f x y z e = y e
small_pick false false p q r o v f x y z e = z

octal_small : (ys : List ℕ) → is_octal_escape false ys ≡ true → octal_value ys < 256
unfolding is_octal_escape
octal_small ys e = ltb-true (octal_value ys) 256 e

hexadecimal_parts : (ys : List ℕ) → is_hexadecimal_escape false ys ≡ true → (0 < digit_count Hexadecimal ys) × (value Hexadecimal ys < 256)
unfolding is_hexadecimal_escape
hexadecimal_parts ys e =
    let parts = and_parts (ltb 0 (digit_count Hexadecimal ys)) (ltb (value Hexadecimal ys) 256) e in
    (ltb-true 0 (digit_count Hexadecimal ys) parts.0, ltb-true (value Hexadecimal ys) 256 parts.1)

pub escape_small : (ys : List ℕ) → AreBytes ys → is_escape false ys ≡ true → escape_byte ys < 256
unfolding is_escape
escape_small ys all e =
    small_pick (ltb 0 (digit_count Octal ys)) (eqb (slice_index ys 0) 120) (is_octal_escape false ys) (is_hexadecimal_escape false (drop 1 ys)) (is_simple_escape (slice_index ys 0)) (octal_value ys)
    (value Hexadecimal (drop 1 ys)) (simple_escape (slice_index ys 0)) (octal_small ys) (λ h. (hexadecimal_parts (drop 1 ys) h).1) (simple_small (slice_index ys 0) (byte_small ys 0 all)) e

-- an escape ends with a digit, or it is one byte
pub data Ends (ys : List ℕ) (size : ℕ) : Type 0 where
  digit : (j : ℕ) → size ≡ 1 + j → (get_or ys j 0 ≡ 92 → ⊥) → Ends ys size
  alone : size ≡ 1 → Ends ys size

octal_ends : (ys : List ℕ) → 0 < digit_count Octal ys → Ends ys (min (digit_count Octal ys) 3)
octal_ends ys h =
    let d = digit_count Octal ys in
    let size = min d 3 in
    digit (size - 1) (omega arith)
    (no_backslash Octal (get_or ys (size - 1) 0) (prefix_len_passes (is_digit_of Octal) ys (size - 1) 0 (omega arith)))

hexadecimal_ends : (ys : List ℕ) → 0 < digit_count Hexadecimal (drop 1 ys) → Ends ys (1 + digit_count Hexadecimal (drop 1 ys))
hexadecimal_ends ys h =
    let d = digit_count Hexadecimal (drop 1 ys) in
    let less : 1 + (d - 1) ≡ d = omega arith in
    let at : get_or (drop 1 ys) (d - 1) 0 ≡ get_or ys d 0 = get_or-drop 1 ys (d - 1) 0 ∙ ap (λ n. get_or ys n 0) less in
    digit d refl (λ e. no_backslash Hexadecimal (get_or (drop 1 ys) (d - 1) 0) (prefix_len_passes (is_digit_of Hexadecimal) (drop 1 ys) (d - 1) 0 (omega arith)) (at ∙ e))

ends_pick : (ys : List ℕ) (b c p q r : Bool) (x y : ℕ) → (b ≡ true → Ends ys x) → (q ≡ true → Ends ys y) → cond b p (cond c q r) ≡ true → Ends ys (cond b x (cond c y 1))
ends_pick ys true c p q r x y f g e = f refl
ends_pick ys false true p q r x y f g e = g e
ends_pick ys false false p q r x y f g e = alone refl

pub escape_ends : (ys : List ℕ) → is_escape false ys ≡ true → Ends ys (escape_length ys)
unfolding is_escape
escape_ends ys e =
    ends_pick ys (ltb 0 (digit_count Octal ys)) (eqb (slice_index ys 0) 120) (is_octal_escape false ys) (is_hexadecimal_escape false (drop 1 ys)) (is_simple_escape (slice_index ys 0)) (min (digit_count Octal ys) 3)
    (1 + digit_count Hexadecimal (drop 1 ys)) (λ h. octal_ends ys (ltb-true 0 (digit_count Octal ys) h)) (λ h. hexadecimal_ends ys (hexadecimal_parts (drop 1 ys) h).0) e

-- and within the literal
within_pick : (b c : Bool) (x y k : ℕ) → x ≤ k → y ≤ k → 1 ≤ k → cond b x (cond c y 1) ≤ k
within_pick true c x y k h i j = h
within_pick false true x y k h i j = i
within_pick false false x y k h i j = j

pub escape_within : (k : ℕ) (ys : List ℕ) → Upto k ys → 0 < k → escape_length ys ≤ k
escape_within k ys u some =
    within_pick (ltb 0 (digit_count Octal ys)) (eqb (slice_index ys 0) 120) (min (digit_count Octal ys) 3) (1 + digit_count Hexadecimal (drop 1 ys)) k
    (let h = count_within k ys u Octal in omega arith) (let h = count_within (k - 1) (drop 1 ys) (behind k ys u some) Hexadecimal in omega arith) some
