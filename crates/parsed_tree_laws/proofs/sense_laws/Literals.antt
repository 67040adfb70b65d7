-- The types of constants hold their values.
use Rattle.std.proofs.Common.{arith, ◌≡◌, ℕ, ◌<◌, ◌≤◌, ◌-◌, ◌==◌, Bool, true, false, ◌&&◌, not, pos}
use Rattle.std.specs.Prelude.{neg_ℤ, ◌^◌, nat_lt, if◌then◌else◌, List, slice_index, zero, suc}
use Rattle.std.specs.Int.Signed.{le_z_yes, lt_z_yes}
use Rattle.std.proofs.Math.Facts.{yes_ltb, yes_leb}
use Rattle.std.proofs.lemmas.Bool.{ltb-true, ltb-false}
use Rattle.c_types.specs.Trees.{Ctype}
use Rattle.c_conversions.specs.passed.core_tree.Typed.{Holds}
use Rattle.c_conversions.specs.passed.core_tree.Rows.{int, long}
use Rattle.c_senses.specs.Literals.{value_of_integer, type_of_integer, suffix_of, base_of, is_decimal, unsigned_int, unsigned_long, long_long, unsigned_long_long, plain_type, long_type, long_long_type, signed_type, unsigned_type, type_with_suffix, says_unsigned, count_of_long, char_value, value_of_character, bytes_of, between_quotes}
use Rattle.parsed_tree_laws.specs.sense_laws.Sound.{IsProper}
use Rattle.parsed_tree_laws.proofs.sense_laws.Giving.{if_holds}

-- a type with values up to n holds n, and names no list of parameters
HoldsNumber : ℕ → Ctype → Type 0
HoldsNumber n t = Holds t (pos n) × IsProper t

second : (a b : Bool) → (a && b) ≡ true → b ≡ true
second true b h = h
second false b h = cc

module _ (n : ℕ) where
  is_int : n < 2147483648 → HoldsNumber n int
  unfolding HoldsNumber
  is_int lt = ((le_z_yes tt, lt_z_yes (yes_ltb lt)), tt)

  is_unsigned : n < 4294967296 → HoldsNumber n unsigned_int
  unfolding HoldsNumber
  is_unsigned lt = ((le_z_yes (yes_leb (omega arith)), lt_z_yes (yes_ltb lt)), tt)

  is_long : n < 9223372036854775808 → HoldsNumber n long
  unfolding HoldsNumber
  is_long lt = ((le_z_yes tt, lt_z_yes (yes_ltb lt)), tt)

  is_long_long : n < 9223372036854775808 → HoldsNumber n long_long
  unfolding HoldsNumber
  is_long_long lt = ((le_z_yes tt, lt_z_yes (yes_ltb lt)), tt)

  is_unsigned_long : n < 18446744073709551616 → HoldsNumber n unsigned_long
  unfolding HoldsNumber
  is_unsigned_long lt = ((le_z_yes (yes_leb (omega arith)), lt_z_yes (yes_ltb lt)), tt)

  is_unsigned_long_long : n < 18446744073709551616 → HoldsNumber n unsigned_long_long
  unfolding HoldsNumber
  is_unsigned_long_long lt = ((le_z_yes (yes_leb (omega arith)), lt_z_yes (yes_ltb lt)), tt)

  below : (k : ℕ) → nat_lt n k ≡ true → n < k
  below k h = ltb-true n k h

  module _ (fits : n < 18446744073709551616) where
    plain : (decimal : Bool) → HoldsNumber n (plain_type decimal n)
    plain decimal =
        if_holds (HoldsNumber n) (nat_lt n 2147483648) int _ (λ h. is_int (below 2147483648 h))
        (λ large.
        if_holds (HoldsNumber n) (not decimal && nat_lt n 4294967296) unsigned_int _ (λ h. is_unsigned (below 4294967296 (second (not decimal) (nat_lt n 4294967296) h)))
        (λ larger.
        if_holds (HoldsNumber n) (nat_lt n 9223372036854775808) long _ (λ h. is_long (below 9223372036854775808 h))
        (λ largest. if_holds (HoldsNumber n) decimal unsigned_long_long unsigned_long (λ h. is_unsigned_long_long fits) (λ h. is_unsigned_long fits))))

    longs : (decimal : Bool) → HoldsNumber n (long_type decimal n)
    longs decimal =
        if_holds (HoldsNumber n) (nat_lt n 9223372036854775808) long _ (λ h. is_long (below 9223372036854775808 h))
        (λ largest. if_holds (HoldsNumber n) decimal unsigned_long_long unsigned_long (λ h. is_unsigned_long_long fits) (λ h. is_unsigned_long fits))

    long_longs : HoldsNumber n (long_long_type n)
    long_longs = if_holds (HoldsNumber n) (nat_lt n 9223372036854775808) long_long unsigned_long_long (λ h. is_long_long (below 9223372036854775808 h)) (λ h. is_unsigned_long_long fits)

    signed_number : (count : ℕ) (decimal : Bool) → HoldsNumber n (signed_type count decimal n)
    signed_number count decimal =
        if_holds (HoldsNumber n) (count == 0) (plain_type decimal n) _ (λ h. plain decimal)
        (λ h. if_holds (HoldsNumber n) (count == 1) (long_type decimal n) (long_long_type n) (λ h. longs decimal) (λ h. long_longs))

    unsigned_number : (count : ℕ) → HoldsNumber n (unsigned_type count n)
    unsigned_number count =
        if_holds (HoldsNumber n) (count == 0) (if nat_lt n 4294967296 then unsigned_int else unsigned_long) _
        (λ h. if_holds (HoldsNumber n) (nat_lt n 4294967296) unsigned_int unsigned_long (λ h. is_unsigned (below 4294967296 h)) (λ h. is_unsigned_long fits))
        (λ h. if_holds (HoldsNumber n) (count == 1) unsigned_long unsigned_long_long (λ h. is_unsigned_long fits) (λ h. is_unsigned_long_long fits))

    with_suffix : (suffix : List ℕ) (decimal : Bool) → HoldsNumber n (type_with_suffix suffix decimal n)
    with_suffix suffix decimal =
        if_holds (HoldsNumber n) (says_unsigned suffix) (unsigned_type (count_of_long suffix) n) (signed_type (count_of_long suffix) decimal n) (λ h. unsigned_number (count_of_long suffix)) (λ h. signed_number (count_of_long suffix) decimal)

pub integer_holds : (bytes : List ℕ) → value_of_integer bytes < 2 ^ 64 → Holds (type_of_integer bytes) (pos (value_of_integer bytes)) × IsProper (type_of_integer bytes)
unfolding HoldsNumber
integer_holds bytes lt = with_suffix (value_of_integer bytes) lt (suffix_of bytes) (is_decimal (base_of bytes))

-- a char is an int
small_char : (k : ℕ) → k ≤ 128 → Holds int (neg_ℤ (pos k))
small_char zero h = (le_z_yes tt, lt_z_yes tt)
small_char (suc k) h = (le_z_yes (yes_leb (omega arith)), lt_z_yes tt)

pub char_holds : (c : ℕ) → Holds int (char_value c)
char_holds c =
    if_holds (Holds int) (nat_lt c 128) (pos c) (neg_ℤ (pos (256 - c))) (λ h. let lt : c < 128 = ltb-true c 128 h in (le_z_yes tt, lt_z_yes (yes_ltb (omega arith))))
    (λ h. let le : 128 ≤ c = ltb-false c 128 h in small_char (256 - c) (omega arith))

pub character_holds : (bytes : List ℕ) → Holds int (value_of_character bytes)
character_holds bytes = char_holds (slice_index (bytes_of (between_quotes 39 bytes)) 0)
