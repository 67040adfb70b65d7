-- Escape sequences (C11 6.4.4.4).
use Rattle.std.specs.Prelude.{◌≡◌, ℕ, ◌+◌, ◌==◌, Bool, true, ◌&&◌, ◌||◌, not, nat_lt, min, List, [], ◌∷◌, take}
use Rattle.std.specs.Prelude.{drop, slice_index, if◌then◌else◌}
use Rattle.std.specs.List.{list_any}
use Rattle.c_lexer.specs.declared.numbers.Base.TheVariants.{Octal, Hexadecimal}
use Rattle.c_lexer.specs.Numbers.{value_on, digit_count, value}
use Rattle.c_lexer.specs.Quotes.{is_escaped}

-- the value of the one, two or three octal digits that stand first
abbrev pub octal_value : List ℕ → ℕ
octal_value xs = value_on 8 0 (take (min (digit_count Octal xs) 3) xs)

-- a value over 255 stands only in a wide literal
unfoldable pub is_octal_escape : Bool → List ℕ → Bool
is_octal_escape wide xs = wide || nat_lt (octal_value xs) 256

-- some digits, as many as stand there
unfoldable pub is_hexadecimal_escape : Bool → List ℕ → Bool
is_hexadecimal_escape wide xs = nat_lt 0 (digit_count Hexadecimal xs) && (wide || nat_lt (value Hexadecimal xs) 256)

-- ' " ? \ a b f n r t v
unfoldable pub is_simple_escape : ℕ → Bool
is_simple_escape c = list_any (λ s. s == c) (39 ∷ 34 ∷ 63 ∷ 92 ∷ 97 ∷ 98 ∷ 102 ∷ 110 ∷ 114 ∷ 116 ∷ 118 ∷ [])

-- Whether the bytes behind a backslash begin with an escape: up to three octal digits, x and hexadecimal digits, or
-- a byte that stands alone.
unfoldable pub is_escape : Bool → List ℕ → Bool
is_escape wide xs =
    if nat_lt 0 (digit_count Octal xs) then is_octal_escape wide xs
    else if slice_index xs 0 == 120 then is_hexadecimal_escape wide (drop 1 xs)
    else is_simple_escape (slice_index xs 0)

-- Whether a byte is a backslash that nothing escapes and that begins no escape.
abbrev pub is_bad : Bool → Bool → List ℕ → ℕ → Bool
is_bad wide escaped text at =
    (slice_index text at == 92 && not escaped) && not (is_escape wide (drop (at + 1) text))

-- a bad escape begins n bytes behind the first byte inside a literal
abbrev pub IsBad : Bool → List ℕ → ℕ → ℕ → Type 0
IsBad wide text inside n = is_bad wide (is_escaped text inside n) text (inside + n) ≡ true
