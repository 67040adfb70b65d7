-- Numbers past a limit count as the limit.
use Rattle.std.proofs.Common.{arith, ◌≡◌, ℕ, zero, suc, ◌*◌, min}
use Rattle.std.proofs.Math.Nat.{mul-le-mul_left}

pub min_mul : (a m c : ℕ) → min (a * min m c) c ≡ min (a * m) c
min_mul zero m c = omega arith
min_mul (suc a) m c = grind (arith, mul-le-mul_left)
