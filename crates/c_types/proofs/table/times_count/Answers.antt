use Rattle.std.proofs.Common.{◌≡◌, ℕ, ◌*◌, ◌^◌, Option, Some, None, ap}
use Rattle.c_types.specs.Inside.{capped, times}
use Rattle.c_types.specs.Bounds.{cap}
use Rattle.c_types.proofs.Cap.{min_mul}
use Rattle.c_types.proofs.table.times_count.Goals as goal

step : (a m r : ℕ) (length count : Option ℕ) → length ≡ Some a → count ≡ Some m → r ≡ cap (a * m) → (n : Option ℕ) → count ≡ capped n → Some r ≡ capped (times length n)
step a m r length count le ce re None e = cc
step a m r length count le ce re (Some k) e =
    let same : m ≡ cap k = cc in
    let eq = min_mul a k (2 ^ 63) in
    rw (le, re, same) (ap Some eq)

pub returns-in-Some-Some : goal.returns-in-Some-Some
returns-in-Some-Some c = step _ _ _ _ _ c.in-Some-Some.is-0 c.in-Some-Some.is-1 c.times_capped.ensures
