-- The numbers that a type holds.
use Rattle.std.specs.Prelude.{ℕ, ◌*◌, ℤ, pos, neg_ℤ, nat_eq, if◌then◌else◌, ◌≤ℤ◌, ◌<ℤ◌, true, false}
use Rattle.c_types.specs.Trees.{Ctype, BoolType, IntegerType}

-- half of the numbers of a size, which is 1, 2, 4 or 8
abbrev pub half_of : ℕ → ℕ
half_of size =
    if nat_eq size 1 then 128
    else (if nat_eq size 2 then 32768 else (if nat_eq size 4 then 2147483648 else 9223372036854775808))

abbrev pub InSigned : ℕ → ℤ → Type 0
InSigned half n = (neg_ℤ (pos half) ≤ℤ n) × (n <ℤ pos half)

abbrev pub InUnsigned : ℕ → ℤ → Type 0
InUnsigned half n = (pos 0 ≤ℤ n) × (n <ℤ pos (2 * half))

-- a number that a type holds
abbrev pub Holds : Ctype → ℤ → Type 0
Holds BoolType n = (pos 0 ≤ℤ n) × (n ≤ℤ pos 1)
Holds (IntegerType size rank false) n = InUnsigned (half_of size) n
Holds (IntegerType size rank true) n = InSigned (half_of size) n
Holds t n = ⊥
