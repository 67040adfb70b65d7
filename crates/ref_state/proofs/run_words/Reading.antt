-- A text that is read from the left.
use Rattle.std.proofs.Common.{arith, ◌≡◌, ℕ, zero, suc, ◌+◌, ◌*◌, ◌-◌, ◌^◌, ◌<◌, ◌≤◌, List, [], ◌∷◌, ◌++◌, length, Some, None, Result, Ok, Err, Bool, true, false, take, drop, get_or, slice_get, All, IfSome, ◌&&◌, if◌then◌else◌, nat_lt, nat_le, length-drop, refl, ap, sym, subst, ◌∙◌}
use Rattle.std.proofs.lemmas.Bool.{ltb-true, ltb-false, lt-ltb, le-ltb, leb-true}
use Rattle.std.proofs.Math.Seq.{drop-cons, drop-nil, take-length}
use Rattle.std.proofs.Math.ListN.{drop_of_length-le}
use Rattle.std.proofs.lemmas.List.{take-append-drop, length-take-le}
use Rattle.std.proofs.lemmas.List.Elements.{All-nil, All-cons}
use Rattle.ref_state.specs.run_words.Words.{is_space, is_digit, number_from, fitting, AreDigits, before, IsReading, ends, space, number, large, other}

pub number_grows : (n : ℕ) (digits : List ℕ) → n ≤ number_from n digits
number_grows n [] = omega arith
number_grows n (d ∷ digits) = omega (arith, number_grows (n * 10 + (d - 48)) digits)

-- words before an answer
abbrev pub prepended : List ℕ → Result (List ℕ) ℕ → Result (List ℕ) ℕ
prepended [] answer = answer
prepended (n ∷ words) answer = before n (prepended words answer)

prepended_more : (words : List ℕ) (n : ℕ) (answer : Result (List ℕ) ℕ) → prepended (words ++ n ∷ []) answer ≡ prepended words (before n answer)
prepended_more [] n answer = refl
prepended_more (m ∷ words) n answer = ap (before m) (prepended_more words n answer)

prepended_ok : (words : List ℕ) → prepended words (Ok []) ≡ Ok words
prepended_ok [] = refl
prepended_ok (m ∷ words) = ap (before m) (prepended_ok words)

prepended_err : (words : List ℕ) (at : ℕ) → prepended words (Err at) ≡ Err at
prepended_err [] at = refl
prepended_err (m ∷ words) at = ap (before m) (prepended_err words at)

-- so far, and how what is left goes on
pub record Going (text : List ℕ) (at : ℕ) (words : List ℕ) : Type 0 where
  pub within : at ≤ length text
  pub goes : (answer : Result (List ℕ) ℕ) → IsReading at (drop at text) answer → IsReading 0 text (prepended words answer)

pub going_start : (text : List ℕ) → Going text 0 []
going_start text = record { within = omega arith; goes = λ answer h. h }

pub cons_at : (i : ℕ) (xs : List ℕ) → i < length xs → drop i xs ≡ get_or xs i 0 ∷ drop (i + 1) xs
cons_at i xs h = let e : suc i ≡ i + 1 = omega arith in drop-cons xs i 0 h ∙ ap (λ (k : ℕ). get_or xs i 0 ∷ drop k xs) e

pub going_space : (text : List ℕ) (at : ℕ) (words : List ℕ) → Going text at words → at < length text → is_space (get_or text at 0) ≡ true → Going text (at + 1) words
going_space text at words going lt h = record {
  within = omega arith;
  goes = λ answer reads. going.goes answer (subst (λ (xs : List ℕ). IsReading at xs answer) (sym (cons_at at text lt)) (space h reads));
}

pub going_other : (text : List ℕ) (at : ℕ) (words : List ℕ) → Going text at words → at < length text → is_space (get_or text at 0) ≡ false → is_digit (get_or text at 0) ≡ false → IsReading 0 text (Err at)
going_other text at words going lt no_space no_digit =
    subst (λ (a : Result (List ℕ) ℕ). IsReading 0 text a) (prepended_err words at)
    (going.goes (Err at) (subst (λ (xs : List ℕ). IsReading at xs (Err at)) (sym (cons_at at text lt)) (other no_space no_digit)))

pub going_end : (text : List ℕ) (at : ℕ) (words : List ℕ) → Going text at words → length text ≤ at → IsReading 0 text (Ok words)
going_end text at words going le =
    subst (λ (a : Result (List ℕ) ℕ). IsReading 0 text a) (prepended_ok words)
    (going.goes (Ok []) (subst (λ (xs : List ℕ). IsReading at xs (Ok [])) (sym (drop_of_length-le text le)) ends))

-- digits as far as they go
pub are_digits : (rest : List ℕ) (count : ℕ) → count ≤ length rest → 0 < count
    → ((k : ℕ) → k < count → is_digit (get_or rest k 0) ≡ true)
    → (count < length rest → is_digit (get_or rest count 0) ≡ false)
    → AreDigits (take count rest) (drop count rest)
are_digits rest count le some each whole = record {
  some = long count rest le some;
  each = all count rest le each;
  whole = past count rest le whole;
}
  where
    long : (n : ℕ) (xs : List ℕ) → n ≤ length xs → 0 < n → 0 < length (take n xs)
    long zero xs h k = absurd (omega (arith, k))
    long (suc n) [] h k = absurd (omega (arith, h))
    long (suc n) (x ∷ xs) h k = omega arith

    all : (n : ℕ) (xs : List ℕ) → n ≤ length xs → ((k : ℕ) → k < n → is_digit (get_or xs k 0) ≡ true) → All (λ byte. is_digit byte ≡ true) (take n xs)
    all zero xs h f = All-nil (λ byte. is_digit byte ≡ true)
    all (suc n) [] h f = absurd (omega (arith, h))
    all (suc n) (x ∷ xs) h f =
        All-cons (λ byte. is_digit byte ≡ true) x (take n xs) (f 0 (omega arith)) (all n xs (omega (arith, h)) (λ k lt. f (suc k) (omega (arith, lt))))

    past : (n : ℕ) (xs : List ℕ) → n ≤ length xs → (n < length xs → is_digit (get_or xs n 0) ≡ false) → IfSome (slice_get (drop n xs) 0) (λ byte. is_digit byte ≡ false)
    past zero [] h f = tt
    past zero (x ∷ xs) h f = f (omega arith)
    past (suc n) [] h f = absurd (omega (arith, h))
    past (suc n) (x ∷ xs) h f = past n xs (omega (arith, h)) (λ lt. f (omega (arith, lt)))

dropped : (a b : ℕ) (xs : List ℕ) → drop b (drop a xs) ≡ drop (a + b) xs
dropped zero b xs = let e : b ≡ zero + b = omega arith in ap (λ (k : ℕ). drop k xs) e
dropped (suc a) b [] = drop-nil b ∙ sym (drop-nil (suc a + b))
dropped (suc a) b (x ∷ xs) = let e : suc (a + b) ≡ suc a + b = omega arith in dropped a b xs ∙ ap (λ (k : ℕ). drop k (x ∷ xs)) e

pub going_number : (text : List ℕ) (at count : ℕ) (words : List ℕ) → Going text at words → count ≤ length (drop at text) → at + count ≤ length text
    → AreDigits (take count (drop at text)) (drop count (drop at text))
    → number_from 0 (take count (drop at text)) < 2 ^ 64
    → Going text (at + count) (words ++ number_from 0 (take count (drop at text)) ∷ [])
going_number text at count words going le within digits fits = record {
  within = within;
  goes = λ answer reads.
      let read : IsReading (at + length (take count (drop at text))) (drop count (drop at text)) answer =
      subst (λ (k : ℕ). IsReading (at + k) (drop count (drop at text)) answer) (sym (length-take-le count (drop at text) le))
      (subst (λ (xs : List ℕ). IsReading (at + count) xs answer) (sym (dropped at count text)) reads) in
      subst (λ (a : Result (List ℕ) ℕ). IsReading 0 text a) (sym (prepended_more words (number_from 0 (take count (drop at text))) answer))
      (going.goes (before (number_from 0 (take count (drop at text))) answer)
      (subst (λ (xs : List ℕ). IsReading at xs (before (number_from 0 (take count (drop at text))) answer)) (take-append-drop count (drop at text)) (number digits fits read)));
}

pub going_large : (text : List ℕ) (at count : ℕ) (words : List ℕ) → Going text at words
    → AreDigits (take count (drop at text)) (drop count (drop at text))
    → 2 ^ 64 ≤ number_from 0 (take count (drop at text))
    → IsReading 0 text (Err at)
going_large text at count words going digits big =
    subst (λ (a : Result (List ℕ) ℕ). IsReading 0 text a) (prepended_err words at)
    (going.goes (Err at) (subst (λ (xs : List ℕ). IsReading at xs (Err at)) (take-append-drop count (drop at text)) (large digits big)))

fits_not : (m : ℕ) → 2 ^ 64 ≤ m → None ≡ fitting m
fits_not m h = ap (λ (b : Bool). if b then Some m else None) (sym (le-ltb m (2 ^ 64) h))

pub fits_there : (m : ℕ) → m < 2 ^ 64 → Some m ≡ fitting m
fits_there m h = ap (λ (b : Bool). if b then Some m else None) (sym (lt-ltb m (2 ^ 64) h))

by_case : (m : ℕ) (b : Bool) → (b ≡ false → 2 ^ 64 ≤ m) → None ≡ (if b then Some m else None) → 2 ^ 64 ≤ m
by_case m true f h = cc
by_case m false f h = f refl

pub not_fitting : (m : ℕ) → None ≡ fitting m → 2 ^ 64 ≤ m
not_fitting m h = by_case m (nat_lt m (2 ^ 64)) (ltb-false m (2 ^ 64)) h

by_case_some : (m n : ℕ) (b : Bool) → (b ≡ true → m < 2 ^ 64) → Some n ≡ (if b then Some m else None) → (m < 2 ^ 64) × (n ≡ m)
by_case_some m n true f h = (f refl, cc)
by_case_some m n false f h = cc

pub fitting_is : (m n : ℕ) → Some n ≡ fitting m → (m < 2 ^ 64) × (n ≡ m)
fitting_is m n h = by_case_some m n (nat_lt m (2 ^ 64)) (ltb-true m (2 ^ 64)) h

-- one digit more
pub number_more : (digits : List ℕ) (i n : ℕ) → i < length digits → number_from n (drop i digits) ≡ number_from 0 digits
    → number_from (n * 10 + (get_or digits i 0 - 48)) (drop (i + 1) digits) ≡ number_from 0 digits
number_more digits i n lt h = sym (ap (number_from n) (cons_at i digits lt)) ∙ h

pub number_over : (digits : List ℕ) (i n : ℕ) → i < length digits → number_from n (drop i digits) ≡ number_from 0 digits
    → 2 ^ 64 ≤ n * 10 + (get_or digits i 0 - 48) → None ≡ fitting (number_from 0 digits)
number_over digits i n lt h big =
    let grows = number_grows (n * 10 + (get_or digits i 0 - 48)) (drop (i + 1) digits) in
    fits_not (number_from 0 digits) (omega (arith, big, grows, number_more digits i n lt h))

pub number_whole : (digits : List ℕ) (i n : ℕ) → length digits ≤ i → number_from n (drop i digits) ≡ number_from 0 digits → n < 2 ^ 64 → Some n ≡ fitting (number_from 0 digits)
number_whole digits i n le h fits =
    let e : n ≡ number_from 0 digits = sym (ap (number_from n) (drop_of_length-le digits le)) ∙ h in
    subst (λ (m : ℕ). Some n ≡ fitting m) e (fits_there n fits)

-- a digit is at least 48
bit : (b c : Bool) → (b && c) ≡ true → b ≡ true
bit true c h = refl
bit false c h = cc

pub digit_low : (d : ℕ) → is_digit d ≡ true → 48 ≤ d
digit_low d h = leb-true 48 d (bit (nat_le 48 d) (nat_le d 57) h)

-- all that is left
pub whole_rest : (text : List ℕ) (at : ℕ) → take (length text - at) (drop at text) ≡ drop at text
whole_rest text at =
    let e : length text - at ≡ length (drop at text) = sym (length-drop at text) in
    ap (λ (n : ℕ). take n (drop at text)) e ∙ take-length (drop at text)

-- what the code has found at a byte that is no white space
module _ (text : List ℕ) (at : ℕ) (words : List ℕ) (going : Going text at words) (lt : at < length text) (count : ℕ)
    (within : count ≤ length (take (length text - at) (drop at text)))
    (each : (k : ℕ) → k < count → is_digit (get_or (take (length text - at) (drop at text)) k 0) ≡ true)
    (whole : count < length (take (length text - at) (drop at text)) → is_digit (get_or (take (length text - at) (drop at text)) count 0) ≡ false) where
  there : count ≤ length (drop at text)
  there = subst (λ (xs : List ℕ). count ≤ length xs) (whole_rest text at) within

  before_there : (k : ℕ) → k < count → is_digit (get_or (drop at text) k 0) ≡ true
  before_there = subst (λ (xs : List ℕ). (k : ℕ) → k < count → is_digit (get_or xs k 0) ≡ true) (whole_rest text at) each

  after_there : count < length (drop at text) → is_digit (get_or (drop at text) count 0) ≡ false
  after_there = subst (λ (xs : List ℕ). count < length xs → is_digit (get_or xs count 0) ≡ false) (whole_rest text at) whole

  pub found_other : is_space (get_or text at 0) ≡ false → count ≡ 0 → IsReading 0 text (Err at)
  found_other no_space none =
      let first : get_or (drop at text) 0 0 ≡ get_or text at 0 = ap (λ (xs : List ℕ). get_or xs 0 0) (cons_at at text lt) in
      let some : 0 < length (drop at text) = omega (arith, lt, length-drop at text) in
      let no_digit : is_digit (get_or (drop at text) 0 0) ≡ false =
      subst (λ (n : ℕ). n < length (drop at text) → is_digit (get_or (drop at text) n 0) ≡ false) none after_there some in
      going_other text at words going lt no_space (sym (ap is_digit first) ∙ no_digit)

  pub found_large : 0 < count → None ≡ fitting (number_from 0 (take count (take (length text - at) (drop at text)))) → IsReading 0 text (Err at)
  found_large some h =
      going_large text at count words going (are_digits (drop at text) count there some before_there after_there)
      (not_fitting (number_from 0 (take count (drop at text)))
      (subst (λ (xs : List ℕ). None ≡ fitting (number_from 0 (take count xs))) (whole_rest text at) h))

  pub found_number : 0 < count → (n : ℕ) → Some n ≡ fitting (number_from 0 (take count (take (length text - at) (drop at text)))) → Going text (at + count) (words ++ n ∷ [])
  found_number some n h =
      let (fits, same) = fitting_is (number_from 0 (take count (drop at text))) n
      (subst (λ (xs : List ℕ). Some n ≡ fitting (number_from 0 (take count xs))) (whole_rest text at) h) in
      subst (λ (m : ℕ). Going text (at + count) (words ++ m ∷ [])) (sym same)
      (going_number text at count words going there (omega (arith, there, lt, length-drop at text))
      (are_digits (drop at text) count there some before_there after_there) fits)
