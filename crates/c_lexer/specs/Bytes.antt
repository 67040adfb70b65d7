-- The classes of bytes.
use Rattle.std.specs.Prelude.{ℕ, ◌-◌, ◌==◌, Bool, ◌&&◌, ◌||◌, nat_le, if◌then◌else◌}

abbrev pub within : ℕ → ℕ → ℕ → Bool
within low high c = nat_le low c && nat_le c high

-- letters and the underscore
unfoldable pub is_letter : ℕ → Bool
is_letter c = within 97 122 c || within 65 90 c || c == 95

unfoldable pub is_digit : ℕ → Bool
is_digit c = within 48 57 c

unfoldable pub is_octal_digit : ℕ → Bool
is_octal_digit c = within 48 55 c

unfoldable pub is_hexadecimal_digit : ℕ → Bool
is_hexadecimal_digit c = within 48 57 c || within 97 102 c || within 65 70 c

-- what a digit is worth
unfoldable pub digit_value : ℕ → ℕ
digit_value c = if nat_le 97 c then c - 87 else if nat_le 65 c then c - 55 else c - 48

-- tab, line feed, vertical tab, form feed, carriage return and space
unfoldable pub is_white : ℕ → Bool
is_white c = within 9 13 c || c == 32

-- space and tab
unfoldable pub is_blank : ℕ → Bool
is_blank c = c == 32 || c == 9
