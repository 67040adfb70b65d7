-- What constants and string literals mean (C11 6.4.4.1, 6.4.4.4, 6.4.5).
use Rattle.std.specs.Prelude.{ℕ, zero, suc, ◌+◌, ◌-◌, ◌==◌, ℤ, pos, neg_ℤ, Bool, true, false, ◌&&◌, ◌||◌, not}
use Rattle.std.specs.Prelude.{nat_lt, min, List, [], ◌∷◌, take, drop, length, slice_index, if◌then◌else◌}
use Rattle.std.specs.List.{list_any, prefix_len}
use Rattle.c_inits.specs.passed.c_grammar.PassedOn.{Base}
use Rattle.c_inits.specs.passed.c_grammar.PassedOn.{Octal, Decimal, Hexadecimal}
use Rattle.c_inits.specs.passed.c_grammar.PassedOn.{value, behind, digit_count, begins_hexadecimal}
use Rattle.c_inits.specs.passed.c_grammar.PassedOn.{octal_value}
use Rattle.c_inits.specs.passed.c_types.Trees.{Ctype, IntegerType}
use Rattle.c_consts.specs.passed.core_tree.Rows.{int, long}

-- 6.4.4.1: the base, the digits, the value and the suffix of an integer constant
abbrev pub base_of : List ℕ → Base
base_of bytes =
    if begins_hexadecimal bytes then Hexadecimal else (if slice_index bytes 0 == 48 then Octal else Decimal)

abbrev pub digits_of : List ℕ → List ℕ
digits_of bytes = if begins_hexadecimal bytes then drop 2 bytes else bytes

abbrev pub value_of_integer : List ℕ → ℕ
value_of_integer bytes = value (base_of bytes) (digits_of bytes)

abbrev pub suffix_of : List ℕ → List ℕ
suffix_of bytes = behind (base_of bytes) (digits_of bytes)

abbrev pub is_one_of : ℕ → ℕ → ℕ → Bool
is_one_of upper lower c = (c == upper) || (c == lower)

-- u or U stands in a suffix; and how many times l or L does
abbrev pub says_unsigned : List ℕ → Bool
says_unsigned suffix = list_any (is_one_of 85 117) suffix

abbrev pub count_of_long : List ℕ → ℕ
count_of_long [] = 0
count_of_long (c ∷ cs) = if is_one_of 76 108 c then 1 + count_of_long cs else count_of_long cs

abbrev pub is_decimal : Base → Bool
is_decimal Decimal = true
is_decimal base = false

abbrev pub unsigned_int : Ctype
unsigned_int = IntegerType 4 4 false

abbrev pub unsigned_long : Ctype
unsigned_long = IntegerType 8 5 false

abbrev pub long_long : Ctype
long_long = IntegerType 8 6 true

abbrev pub unsigned_long_long : Ctype
unsigned_long_long = IntegerType 8 6 false

-- 6.4.4.1p5: the first type of the list for the suffix and base that holds the value. A decimal constant without u
-- that is in none of them has the type unsigned long long.
abbrev pub plain_type : Bool → ℕ → Ctype
plain_type decimal n =
    if nat_lt n 2147483648 then int
    else if not decimal && nat_lt n 4294967296 then unsigned_int
    else if nat_lt n 9223372036854775808 then long
    else if decimal then unsigned_long_long
    else unsigned_long

abbrev pub long_type : Bool → ℕ → Ctype
long_type decimal n =
    if nat_lt n 9223372036854775808 then long
    else if decimal then unsigned_long_long
    else unsigned_long

abbrev pub long_long_type : ℕ → Ctype
long_long_type n = if nat_lt n 9223372036854775808 then long_long else unsigned_long_long

abbrev pub signed_type : ℕ → Bool → ℕ → Ctype
signed_type longs decimal n =
    if longs == 0 then plain_type decimal n else (if longs == 1 then long_type decimal n else long_long_type n)

abbrev pub unsigned_type : ℕ → ℕ → Ctype
unsigned_type longs n =
    if longs == 0 then (if nat_lt n 4294967296 then unsigned_int else unsigned_long)
    else if longs == 1 then unsigned_long
    else unsigned_long_long

abbrev pub type_with_suffix : List ℕ → Bool → ℕ → Ctype
type_with_suffix suffix decimal n =
    if says_unsigned suffix then unsigned_type (count_of_long suffix) n
    else signed_type (count_of_long suffix) decimal n

abbrev pub type_of_integer : List ℕ → Ctype
type_of_integer bytes = type_with_suffix (suffix_of bytes) (is_decimal (base_of bytes)) (value_of_integer bytes)

-- 6.4.4.4: the byte that an escape gives, of what stands behind its backslash, and how many bytes it takes there
abbrev pub simple_escape : ℕ → ℕ
simple_escape c =
    if c == 97 then 7
    else if c == 98 then 8
    else if c == 102 then 12
    else if c == 110 then 10
    else if c == 114 then 13
    else if c == 116 then 9
    else if c == 118 then 11
    else c

abbrev pub escape_byte : List ℕ → ℕ
escape_byte xs =
    if nat_lt 0 (digit_count Octal xs) then octal_value xs
    else if slice_index xs 0 == 120 then value Hexadecimal (drop 1 xs)
    else simple_escape (slice_index xs 0)

abbrev pub escape_length : List ℕ → ℕ
escape_length xs =
    if nat_lt 0 (digit_count Octal xs) then min (digit_count Octal xs) 3
    else if slice_index xs 0 == 120 then 1 + digit_count Hexadecimal (drop 1 xs)
    else 1

-- the bytes that stand for those between the quotes; a byte or an escape takes at least one of them, so `most` is
-- enough where it is their number
abbrev pub bytes_within : (most : ℕ) → List ℕ → List ℕ
bytes_within zero xs = []
bytes_within (suc most) [] = []
bytes_within (suc most) (c ∷ cs) =
    if c == 92 then escape_byte cs ∷ bytes_within most (drop (escape_length cs) cs) else c ∷ bytes_within most cs

abbrev pub bytes_of : List ℕ → List ℕ
bytes_of xs = bytes_within (length xs) xs

-- the bytes before the first quote, those between the first and the last one
abbrev pub prefix_length : ℕ → List ℕ → ℕ
prefix_length quote bytes = prefix_len (λ c. not (c == quote)) bytes

abbrev pub between_quotes : ℕ → List ℕ → List ℕ
between_quotes quote bytes =
    let behind_prefix = drop (prefix_length quote bytes + 1) bytes in take (length behind_prefix - 1) behind_prefix

-- a string literal's bytes, without the closing zero
abbrev pub bytes_of_string : List ℕ → List ℕ
bytes_of_string bytes = bytes_of (between_quotes 34 bytes)

-- a byte as a char, which is signed
abbrev pub char_value : ℕ → ℤ
char_value c = if nat_lt c 128 then pos c else neg_ℤ (pos (256 - c))

-- a character constant's value
abbrev pub value_of_character : List ℕ → ℤ
value_of_character bytes = char_value (slice_index (bytes_of (between_quotes 39 bytes)) 0)
