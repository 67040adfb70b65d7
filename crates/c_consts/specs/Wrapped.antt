-- The numbers of an integer type, and a number as one of them (C11 6.3.1.2 and 6.3.1.3).
use Rattle.std.specs.Prelude.{ℕ, ◌*◌, [], ℤ, pos, neg_ℤ, ◌-ℤ◌, int_lt, int_le, if◌then◌else◌, Bool, true, false}
use Rattle.std.specs.Prelude.{nat_eq, ◌&&◌}
use Rattle.std.specs.Int.{int_rem_euclid}
use Rattle.std.specs.Ordering.{int_eq}
use Rattle.c_types.specs.declared.term.Term.{Term}
use Rattle.c_types.specs.Trees.{Ctype, BoolType, IntegerType, grow}
use Rattle.core_tree.specs.Typed.{half_of, InSigned, InUnsigned}

-- the bits of a size, which is 1, 2, 4 or 8
abbrev pub width_of : ℕ → ℕ
width_of size = if nat_eq size 1 then 8 else (if nat_eq size 2 then 16 else (if nat_eq size 4 then 32 else 64))

-- a number of a type with that sign and that half of its numbers
abbrev pub IsHeld : Bool → ℕ → ℤ → Type 0
IsHeld false half n = InUnsigned half n
IsHeld true half n = InSigned half n

-- the number from 0 on that differs by whole turns of the range
abbrev pub low_of : ℕ → ℤ → ℤ
low_of half value = int_rem_euclid value (pos (2 * half))

-- the number of the range that differs by whole turns: an upper half counts as negative
abbrev pub wrapped : Bool → ℕ → ℤ → ℤ
wrapped false half value = low_of half value
wrapped true half value =
    if int_lt (low_of half value) (pos half) then low_of half value else low_of half value -ℤ pos (2 * half)

-- 1 for true, 0 for false
abbrev pub truth : Bool → ℤ
truth false = pos 0
truth true = pos 1

-- a number as one of an integer type: whether it isn't 0 in _Bool, else wrapped
abbrev pub converted : Ctype → ℤ → ℤ
converted BoolType value = if int_eq value (pos 0) then pos 0 else pos 1
converted (IntegerType size rank signed) value = wrapped signed (half_of size) value
converted type value = value

-- the type of a term that is over no other
abbrev pub type_alone : Term → Ctype
type_alone term = grow [] term

-- a signed number is one of the type
abbrev pub is_signed_in : ℕ → ℤ → Bool
is_signed_in half value = int_le (neg_ℤ (pos half)) value && int_lt value (pos half)
