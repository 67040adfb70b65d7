-- Where texts are cut.
use Rattle.std.proofs.Common.{arith, ◌≡◌, ◌∙◌, ℕ, ◌<◌, ◌^◌, Bool, true, false, List, [], ◌∷◌, ◌++◌, refl, sym, ap}
use Rattle.std.specs.Prelude.{nat_eq, ◌&&◌, not}
use Rattle.std.specs.List.{list_all}
use Rattle.std.specs.Fmt.{decimal}
use Rattle.std.specs.Str.Parse.{AllDigits}
use Rattle.std.specs.Char.{digit_value}
use Rattle.std.proofs.lemmas.Bool.{false≢true, ne_eqb}
use Rattle.std.proofs.lemmas.Str.Parse.{digit_from_value}
use Rattle.std.proofs.lemmas.Fmt.{decimal_is_IsNumeral}
use Rattle.linked_laws.specs.location_laws.name_shapes.Bytes.{is_head, is_unit_byte, is_base_byte, is_letter, IsMadeOf, IsWord, Stops}

pub both : (a b : Bool) → (a && b) ≡ true → (a ≡ true) × (b ≡ true)
both true b h = (refl, h)
both false b h = absurd (false≢true h)

pub and : (a b : Bool) → a ≡ true → b ≡ true → (a && b) ≡ true
and true b h k = k
and false b h k = absurd (false≢true h)

-- a part ends where its test fails first
pub cut : (p : ℕ → Bool) (a b s t : List ℕ) → IsMadeOf p a → IsMadeOf p b → Stops p s → Stops p t → a ++ s ≡ b ++ t → (a ≡ b) × (s ≡ t)
cut p [] [] s t ha hb hs ht e = (refl, e)
cut p [] (y ∷ b) [] t ha hb hs ht e = cc
cut p [] (y ∷ b) (x ∷ s) t ha hb hs ht e =
    let same : x ≡ y = cc in
    absurd (false≢true (sym hs ∙ (ap p same ∙ (both (p y) (list_all p b) hb).0)))
cut p (x ∷ a) [] s [] ha hb hs ht e = cc
cut p (x ∷ a) [] s (y ∷ t) ha hb hs ht e =
    let same : x ≡ y = cc in
    absurd (false≢true (sym ht ∙ (ap p (sym same) ∙ (both (p x) (list_all p a) ha).0)))
cut p (x ∷ a) (y ∷ b) s t ha hb hs ht e =
    let same : x ≡ y = cc in
    let rest : a ++ s ≡ b ++ t = cc in
    let (ab, st) = cut p a b s t (both (p x) (list_all p a) ha).1 (both (p y) (list_all p b) hb).1 hs ht rest in
    (cc, st)

-- what passes one test passes a weaker one
pub weaker : (p q : ℕ → Bool) (a : List ℕ) → ((c : ℕ) → p c ≡ true → q c ≡ true) → IsMadeOf p a → IsMadeOf q a
weaker p q [] f h = refl
weaker p q (c ∷ rest) f h =
    let (here, more) = both (p c) (list_all p rest) h in
    and (q c) (list_all q rest) (f c here) (weaker p q rest f more)

pub append : (p : ℕ → Bool) (a b : List ℕ) → IsMadeOf p a → IsMadeOf p b → IsMadeOf p (a ++ b)
append p [] b ha hb = hb
append p (c ∷ rest) b ha hb =
    let (here, more) = both (p c) (list_all p rest) ha in
    and (p c) (list_all p (rest ++ b)) here (append p rest b more hb)

pub unit_head : (c : ℕ) → is_unit_byte c ≡ true → is_head c ≡ true
unit_head c h = (both (is_head c) (not (nat_eq c 42)) h).0

pub base_head : (c : ℕ) → is_base_byte c ≡ true → is_head c ≡ true
base_head c h = (both (is_head c) (not (nat_eq c 46) && not (nat_eq c 47)) h).0

pub letter_base : (c : ℕ) → is_letter c ≡ true → is_base_byte c ≡ true
letter_base c h = (both (is_base_byte c) (not (nat_eq c 35) && not (nat_eq c 60)) h).0

pub letter_head : (c : ℕ) → is_letter c ≡ true → is_head c ≡ true
letter_head c h = base_head c (letter_base c h)

pub word_letters : (name : List ℕ) → IsWord name → IsMadeOf is_letter name
word_letters [] h = absurd h
word_letters (c ∷ rest) h = h

-- digits
pub other : (c n : ℕ) → (c ≡ n → ⊥) → not (nat_eq c n) ≡ true
other c n h = ap not (ne_eqb c n h)

digit_base : (c : ℕ) → digit_value c < 10 → is_base_byte c ≡ true
digit_base c h =
    let (low, high) = digit_from_value c h in
    and (is_head c) (not (nat_eq c 46) && not (nat_eq c 47))
    (and (not (nat_eq c 58)) (not (nat_eq c 64)) (other c 58 (λ e. omega arith)) (other c 64 (λ e. omega arith)))
    (and (not (nat_eq c 46)) (not (nat_eq c 47)) (other c 46 (λ e. omega arith)) (other c 47 (λ e. omega arith)))

digits_base : (ds : List ℕ) → AllDigits 10 ds → IsMadeOf is_base_byte ds
digits_base [] h = refl
digits_base (c ∷ rest) (here, more) = and (is_base_byte c) (list_all is_base_byte rest) (digit_base c here) (digits_base rest more)

pub decimal_base : (n : ℕ) → n < 2 ^ 64 → IsMadeOf is_base_byte (decimal n)
decimal_base n h = digits_base (decimal n) (decimal_is_IsNumeral n h).0.1
