-- The place of a member, from whether it has a node.
use Rattle.std.proofs.Common.{◌≡◌, ℕ, ap, sym, Bool, true, false, Option, Some, None, if◌then◌else◌}
use Rattle.c_types.specs.Parts.{within_32}

pub some_place : (o : Option ℕ) (b : Bool) (n : ℕ) → o ≡ (if b then Some n else None) → b ≡ true → within_32 (Some n) ≡ within_32 o
some_place o true n h e = ap within_32 (sym h)
some_place o false n h e = cc

pub no_place : (o : Option ℕ) (b : Bool) (n : ℕ) → o ≡ (if b then Some n else None) → b ≡ false → None ≡ within_32 o
no_place o false n h e = ap within_32 (sym h)
no_place o true n h e = cc
