-- The value of digits.
use Rattle.std.proofs.Common.{◌≡◌, ℕ, ◌+◌, ◌*◌, ◌^◌, ◌<◌, ◌≤◌, List, [], ◌∷◌, length, drop, get_or, refl, ap, ◌∙◌, arith, drop-cons, add-one}
use Rattle.std.proofs.lemmas.List.{drop_all}
use Rattle.c_lexer.specs.Bytes.{digit_value}
use Rattle.c_lexer.specs.declared.numbers.Base.{Base}
use Rattle.c_lexer.specs.declared.numbers.Base.TheVariants.{Octal, Decimal, Hexadecimal}
use Rattle.c_lexer.specs.Numbers.{value_on, radix}

times_grows : (n b : ℕ) → 0 < b → n ≤ n * b
times_grows n b h = grind arith

-- more digits don't make a number smaller
pub value_grows : (base number : ℕ) (cs : List ℕ) → 0 < base → number ≤ value_on base number cs
unfolding value_on
value_grows base number [] h = omega arith
value_grows base number (c ∷ cs) h =
    let e = value_grows base (number * base + digit_value c) cs h in
    let g = times_grows number base h in
    omega arith

pub times_small : (n b : ℕ) → n < 2 ^ 64 → b ≤ 16 → n * b < 2 ^ 68
times_small n b h l = grind arith

pub value_step : (base number i : ℕ) (xs : List ℕ) → i < length xs → value_on base number (drop i xs) ≡ value_on base (number * base + digit_value (get_or xs i 0)) (drop (i + 1) xs)
unfolding value_on
value_step base number i xs h = ap (value_on base number) (drop-cons xs i 0 h) ∙ rw add-one refl

pub value_end : (base number i : ℕ) (xs : List ℕ) → length xs ≤ i → value_on base number (drop i xs) ≡ number
unfolding value_on
value_end base number i xs h = ap (value_on base number) (drop_all i xs h)

pub radix_some : (base : Base) → 0 < radix base
radix_some Octal = omega arith
radix_some Decimal = omega arith
radix_some Hexadecimal = omega arith
