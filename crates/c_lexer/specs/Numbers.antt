-- Integer and floating constants (C11 6.4.4.1, 6.4.4.2).
use Rattle.std.specs.Prelude.{ℕ, ◌+◌, ◌*◌, ◌^◌, ◌==◌, Bool, true, false, ◌&&◌, ◌||◌, nat_lt, nat_eq, List, [], ◌∷◌}
use Rattle.std.specs.Prelude.{length, take, drop, slice_index, if◌then◌else◌}
use Rattle.std.specs.List.{prefix_len, list_any}
use Rattle.std.specs.Cmp.Lexicographic.{pointwise}
use Rattle.c_lexer.specs.declared.numbers.Base.{Base}
use Rattle.c_lexer.specs.declared.numbers.Base.TheVariants.{Octal, Decimal, Hexadecimal}
use Rattle.c_lexer.specs.Bytes.{is_digit, is_octal_digit, is_hexadecimal_digit, digit_value}
use Rattle.c_lexer.specs.Spellings.{suffixes}

abbrev pub is_digit_of : Base → ℕ → Bool
is_digit_of Octal c = is_octal_digit c
is_digit_of Decimal c = is_digit c
is_digit_of Hexadecimal c = is_hexadecimal_digit c

abbrev pub radix : Base → ℕ
radix Octal = 8
radix Decimal = 10
radix Hexadecimal = 16

-- the number whose digits stand behind those of another number
unfoldable pub value_on : ℕ → ℕ → List ℕ → ℕ
value_on base number [] = number
value_on base number (c ∷ cs) = value_on base (number * base + digit_value c) cs

-- how many digits stand first
abbrev pub digit_count : Base → List ℕ → ℕ
digit_count base xs = prefix_len (is_digit_of base) xs

-- what stands behind the digits that stand first
abbrev pub behind : Base → List ℕ → List ℕ
behind base xs = drop (digit_count base xs) xs

-- the value of the digits that stand first
abbrev pub value : Base → List ℕ → ℕ
value base xs = value_on (radix base) 0 (take (digit_count base xs) xs)

unfoldable pub is_suffix : List ℕ → Bool
is_suffix xs = list_any (λ s. pointwise nat_eq s xs) suffixes

-- digits of a number below 2^64, and a suffix
unfoldable pub is_whole : Base → List ℕ → Bool
is_whole base xs = nat_lt 0 (digit_count base xs) && (nat_lt (value base xs) (2 ^ 64) && is_suffix (behind base xs))

-- 0x or 0X stands first
unfoldable pub begins_hexadecimal : List ℕ → Bool
begins_hexadecimal xs = slice_index xs 0 == 48 && (slice_index xs 1 == 120 || slice_index xs 1 == 88)

-- 6.4.4.1: digits behind 0x are hexadecimal, digits that begin with 0 octal, others decimal
unfoldable pub is_integer : List ℕ → Bool
is_integer xs =
    if begins_hexadecimal xs then is_whole Hexadecimal (drop 2 xs)
    else is_whole (if slice_index xs 0 == 48 then Octal else Decimal) xs

-- nothing, or one of f, F, l and L
unfoldable pub is_floating_suffix : List ℕ → Bool
is_floating_suffix xs =
    length xs == 0 || (length xs == 1 && list_any (λ c. c == slice_index xs 0) (102 ∷ 70 ∷ 108 ∷ 76 ∷ []))

-- whether a byte begins the exponent of digits of this base: e or E, p or P
unfoldable pub begins_exponent : Base → ℕ → Bool
begins_exponent Octal c = false
begins_exponent Decimal c = c == 101 || c == 69
begins_exponent Hexadecimal c = c == 112 || c == 80

-- behind a sign, if there is one
unfoldable pub unsigned : List ℕ → List ℕ
unsigned xs = if slice_index xs 0 == 43 || slice_index xs 0 == 45 then drop 1 xs else xs

-- the digits of an exponent, and a suffix
unfoldable pub is_exponent : List ℕ → Bool
is_exponent xs = nat_lt 0 (digit_count Decimal xs) && is_floating_suffix (behind Decimal xs)

-- an exponent, which may lack where that is said, and a suffix
unfoldable pub is_floating_end : Base → Bool → List ℕ → Bool
is_floating_end base lacks xs =
    if begins_exponent base (slice_index xs 0) then is_exponent (unsigned (drop 1 xs)) else lacks
    && is_floating_suffix xs

-- only a decimal constant with a dot may lack the exponent
unfoldable pub may_lack_exponent : Base → Bool
may_lack_exponent Octal = false
may_lack_exponent Decimal = true
may_lack_exponent Hexadecimal = false

-- what stands behind the dot: digits, which may lack where some stand before the dot, and the end
unfoldable pub is_fraction_end : Base → Bool → List ℕ → Bool
is_fraction_end base whole xs =
    (whole || nat_lt 0 (digit_count base xs)) && is_floating_end base (may_lack_exponent base) (behind base xs)

-- digits, with a dot before, among or behind them, or without one; then the exponent and the suffix
unfoldable pub is_fraction : Base → List ℕ → Bool
is_fraction base xs =
    if slice_index (behind base xs) 0 == 46
    then is_fraction_end base (nat_lt 0 (digit_count base xs)) (drop 1 (behind base xs))
    else nat_lt 0 (digit_count base xs) && is_floating_end base false (behind base xs)

-- 6.4.4.2
unfoldable pub is_floating : List ℕ → Bool
is_floating xs = if begins_hexadecimal xs then is_fraction Hexadecimal (drop 2 xs) else is_fraction Decimal xs
