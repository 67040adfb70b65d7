-- Rounding up, and sizes that count up to a limit.
use Rattle.std.proofs.Common.{arith, ◌≡◌, ℕ, ◌≤◌, ◌<◌, ◌+◌, ◌-◌, min}
use Rattle.c_types.specs.Layout.{multiple}

pub round_above : (x a : ℕ) → 0 < a → x ≤ multiple x a
round_above x a h = omega arith

pub round_below : (x a : ℕ) → 0 < a → multiple x a ≤ x + (a - 1)
round_below x a h = omega arith

pub cap_round : (x a m c : ℕ) → 0 < a → min (multiple (min x c) a + min m c) c ≡ min (multiple x a + m) c
cap_round x a m c h = grind (arith, round_above)

pub cap_padded : (x a c : ℕ) → 0 < a → min (multiple (min x c) a) c ≡ min (multiple x a) c
cap_padded x a c h = grind (arith, round_above)
