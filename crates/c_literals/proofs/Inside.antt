-- What stands between the quotes of a literal, an element at a time.
use Rattle.std.proofs.Common.{◌≡◌, ℕ, zero, suc, ◌<◌, ◌≤◌, min, eqb, List, [], ◌∷◌, length, drop, get_or, refl, sym, ap, ◌∙◌, arith, cond}
use Rattle.std.proofs.lemmas.List.{length-drop}
use Rattle.std.proofs.lemmas.List.Elements.{All-head, All-same, All-rest, All-cons}
use Rattle.std.proofs.lemmas.Bool.{ne_eqb}
use Rattle.std.proofs.Math.Nat.{min-eq_left}
use Rattle.c_senses.specs.Literals.{bytes_within, bytes_of, escape_byte, escape_length}
use Rattle.c_literals.specs.Elements.{IsElement}
use Rattle.c_literals.specs.Laws.{AreBytes}

shorter : (n : ℕ) (xs : List ℕ) (m : ℕ) → length xs ≤ m → length (drop n xs) ≤ m
shorter n xs m h = omega (arith, length-drop n xs)

-- as many steps as there are bytes are enough
pub enough : (m n : ℕ) (xs : List ℕ) → length xs ≤ m → length xs ≤ n → bytes_within m xs ≡ bytes_within n xs
enough zero zero xs h k = refl
enough zero (suc n) [] h k = refl
enough zero (suc n) (c ∷ cs) h k = absurd (omega arith)
enough (suc m) zero [] h k = refl
enough (suc m) zero (c ∷ cs) h k = absurd (omega arith)
enough (suc m) (suc n) [] h k = refl
enough (suc m) (suc n) (c ∷ cs) h k =
    let short : length cs ≤ m = omega arith in
    let small : length cs ≤ n = omega arith in
    let plain = enough m n cs short small in
    let escaped = enough m n (drop (escape_length cs) cs) (shorter (escape_length cs) cs m short) (shorter (escape_length cs) cs n small) in
    ap (λ xs. cond (eqb c 92) (escape_byte cs ∷ xs) (c ∷ bytes_within m cs)) escaped
    ∙ ap (λ xs. cond (eqb c 92) (escape_byte cs ∷ bytes_within n (drop (escape_length cs) cs)) (c ∷ xs)) plain

-- an escape, and what follows it
pub bytes_of-escape : (cs : List ℕ) → bytes_of (92 ∷ cs) ≡ escape_byte cs ∷ bytes_of (drop (escape_length cs) cs)
bytes_of-escape cs =
    ap (λ xs. escape_byte cs ∷ xs) (enough (length cs) (length (drop (escape_length cs) cs)) (drop (escape_length cs) cs) (shorter (escape_length cs) cs (length cs) (omega arith)) (omega arith))

-- any other byte, and what follows it
pub bytes_of-plain : (c : ℕ) (cs : List ℕ) → (c ≡ 92 → ⊥) → bytes_of (c ∷ cs) ≡ c ∷ bytes_of cs
bytes_of-plain c cs h = rw (ne_eqb c 92 h) refl

-- the first element, where it is an escape, and where it isn't
pub escaped_element : (inside rest : List ℕ) (capped size : ℕ) (behind : List ℕ) → 1 ≤ length inside → rest ≡ drop 1 inside → get_or inside 0 0 ≡ 92 → capped ≡ min (escape_byte rest) 256 → size ≡ escape_length rest → behind ≡ drop size rest → IsElement inside capped behind
escaped_element [] rest capped size behind some tail is_92 cap long after = absurd (omega arith)
escaped_element (c ∷ cs) rest capped size behind some tail is_92 cap long after =
    let same : behind ≡ drop (escape_length rest) rest = after ∙ ap (λ n. drop n rest) long in
    record {
      value = escape_byte rest;
      bytes =
          ap (λ x. bytes_of (x ∷ cs)) is_92 ∙ (ap (λ xs. bytes_of (92 ∷ xs)) (sym tail) ∙ (bytes_of-escape rest ∙ ap (λ xs. escape_byte rest ∷ bytes_of xs) (sym same)));
      cap = cap;
      shorter = omega (arith, ap length same, length-drop (escape_length rest) rest, ap length tail);
    }

pub plain_element : (inside rest : List ℕ) (byte : ℕ) → 1 ≤ length inside → rest ≡ drop 1 inside → byte ≡ get_or inside 0 0 → (byte ≡ 92 → ⊥) → byte < 256 → IsElement inside byte rest
plain_element [] rest byte some tail first other small = absurd (omega arith)
plain_element (c ∷ cs) rest byte some tail first other small =
    record {
      value = byte;
      bytes = ap (λ x. bytes_of (x ∷ cs)) (sym first) ∙ (bytes_of-plain byte cs other ∙ ap (λ xs. byte ∷ bytes_of xs) (sym tail));
      cap = omega arith;
      shorter = omega (arith, ap length tail);
    }

-- a literal's bytes, by its first element
pub first_is : (inside behind : List ℕ) (capped : ℕ) → IsElement inside capped behind → AreBytes (bytes_of inside) → bytes_of inside ≡ capped ∷ bytes_of behind
first_is inside behind capped e all =
    let head : e.value < 256 = All-head (λ b. b < 256) e.value (bytes_of behind) (All-same (λ b. b < 256) (e.value ∷ bytes_of behind) (bytes_of inside) (sym e.bytes) all) in
    let same : e.value ≡ capped = sym (e.cap ∙ min-eq_left (omega arith)) in
    e.bytes ∙ ap (λ v. v ∷ bytes_of behind) same

pub first_small : (inside behind : List ℕ) (capped : ℕ) → IsElement inside capped behind → AreBytes (bytes_of inside) → capped < 256
first_small inside behind capped e all =
    let head : e.value < 256 = All-head (λ b. b < 256) e.value (bytes_of behind) (All-same (λ b. b < 256) (e.value ∷ bytes_of behind) (bytes_of inside) (sym e.bytes) all) in
    omega (arith, e.cap)

pub rest_are : (inside behind : List ℕ) (capped : ℕ) → IsElement inside capped behind → AreBytes (bytes_of inside) → AreBytes (bytes_of behind)
rest_are inside behind capped e all = All-rest (λ b. b < 256) e.value (bytes_of behind) (bytes_of inside) e.bytes all

pub all_are : (inside behind : List ℕ) (capped : ℕ) → IsElement inside capped behind → capped < 256 → AreBytes (bytes_of behind) → AreBytes (bytes_of inside)
all_are inside behind capped e small all =
    let head : e.value < 256 = omega (arith, e.cap) in
    All-same (λ b. b < 256) (bytes_of inside) (e.value ∷ bytes_of behind) e.bytes (All-cons (λ b. b < 256) e.value (bytes_of behind) head all)
