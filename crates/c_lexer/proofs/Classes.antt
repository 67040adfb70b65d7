-- The classes of bytes exclude each other.
use Rattle.std.proofs.Common.{◌≡◌, ℕ, ◌≤◌, true, ◌⊎◌, arith}
use Rattle.std.proofs.lemmas.Bool.Decides.{nat_tests}
use Rattle.c_lexer.specs.Bytes.{is_white, is_letter, is_digit}

pub white_range : (c : ℕ) → is_white c ≡ true → ((9 ≤ c) × (c ≤ 13)) ⊎ (c ≡ 32)
unfolding is_white
white_range c h = grind (arith, nat_tests)

pub digit_range : (c : ℕ) → is_digit c ≡ true → (48 ≤ c) × (c ≤ 57)
unfolding is_digit
digit_range c h = grind (arith, nat_tests)

pub letter_range : (c : ℕ) → is_letter c ≡ true → ((97 ≤ c) × (c ≤ 122)) ⊎ (((65 ≤ c) × (c ≤ 90)) ⊎ (c ≡ 95))
unfolding is_letter
letter_range c h = grind (arith, nat_tests)
