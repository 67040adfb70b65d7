-- A number as one of an integer type is held by that type.
use Rattle.std.proofs.Common.{arith, ◌≡◌, ℕ, zero, suc, ◌<◌, ◌≤◌, ◌*◌, ◌-◌, ◌%◌, Bool, true, false, pos, negsuc, refl, sym, subst}
use Rattle.std.specs.Prelude.{ℤ, neg_ℤ, ◌-ℤ◌, ◌≤ℤ◌, ◌<ℤ◌, int_lt, nat_eq, if◌then◌else◌}
use Rattle.std.specs.Ordering.{int_eq}
use Rattle.std.specs.Int.Signed.{le_z_yes, lt_z_yes}
use Rattle.std.proofs.Math.Facts.{yes_ltb, yes_leb}
use Rattle.std.proofs.lemmas.Bool.{ltb-true, ltb-false}
use Rattle.std.proofs.lemmas.Int.{ints}
use Rattle.std.proofs.lemmas.Nat.{mod_below}
use Rattle.c_types.specs.Trees.{Ctype, BoolType, IntegerType}
use Rattle.c_conversions.specs.passed.core_tree.Typed.{Holds, IsInteger, half_of}
use Rattle.c_senses.specs.passed.c_consts.Wrapped.{IsHeld, low_of, wrapped, converted}
use Rattle.parsed_tree_laws.proofs.sense_laws.Giving.{if_holds}

below_turn : (half : ℕ) (value : ℤ) → 0 < half → (k : ℕ) × (low_of half value ≡ pos k) × (k < 2 * half)
below_turn half (pos a) lt = (a % (2 * half), refl, mod_below a (2 * half) (omega arith))
below_turn half (negsuc a) lt = (2 * half - 1 - a % (2 * half), refl, omega (arith, mod_below a (2 * half) (omega arith)))

signed_low : (half k : ℕ) → neg_ℤ (pos half) ≤ℤ pos k
signed_low zero k = le_z_yes (yes_leb (omega arith))
signed_low (suc half) k = le_z_yes tt

turned_back : (k half : ℕ) → half ≤ k → k < 2 * half → (neg_ℤ (pos half) ≤ℤ (pos k -ℤ pos (2 * half))) × ((pos k -ℤ pos (2 * half)) <ℤ pos half)
turned_back k half h lt = (grind (arith, ints), grind (arith, ints))

half_above : (size : ℕ) → 0 < half_of size
half_above size =
    if_holds (λ (n : ℕ). 0 < n) (nat_eq size 1) 128 _ (λ e. omega arith)
    (λ e. if_holds (λ (n : ℕ). 0 < n) (nat_eq size 2) 32768 _ (λ e. omega arith)
    (λ e. if_holds (λ (n : ℕ). 0 < n) (nat_eq size 4) 2147483648 9223372036854775808 (λ e. omega arith) (λ e. omega arith)))

wrapped_signed : (half k : ℕ) → 0 < half → k < 2 * half → IsHeld true half (if int_lt (pos k) (pos half) then pos k else pos k -ℤ pos (2 * half))
wrapped_signed half k above lt =
    if_holds (IsHeld true half) (int_lt (pos k) (pos half)) (pos k) (pos k -ℤ pos (2 * half))
    (λ e. (signed_low half k, lt_z_yes (yes_ltb (ltb-true k half e))))
    (λ e. turned_back k half (ltb-false k half e) lt)

pub wrapped_held : (signed : Bool) (half : ℕ) (value : ℤ) → 0 < half → IsHeld signed half (wrapped signed half value)
wrapped_held false half value above =
    let low = below_turn half value above in subst (IsHeld false half) (sym low.1) (le_z_yes (yes_leb (omega arith)), lt_z_yes (yes_ltb low.2))
wrapped_held true half value above =
    let low = below_turn half value above in
    subst (λ (z : ℤ). IsHeld true half (if int_lt z (pos half) then z else z -ℤ pos (2 * half))) (sym low.1) (wrapped_signed half low.0 above low.2)

held : (size rank : ℕ) (signed : Bool) (n : ℤ) → IsHeld signed (half_of size) n → Holds (IntegerType size rank signed) n
held size rank true n h = h
held size rank false n h = h

pub converted_holds : (t : Ctype) (n : ℤ) → IsInteger t → Holds t (converted t n)
converted_holds BoolType n h = if_holds (Holds BoolType) (int_eq n (pos 0)) (pos 0) (pos 1) (λ e. (le_z_yes tt, le_z_yes tt)) (λ e. (le_z_yes tt, le_z_yes tt))
converted_holds (IntegerType size rank signed) n h = held size rank signed (converted (IntegerType size rank signed) n) (wrapped_held signed (half_of size) n (half_above size))
converted_holds t n h = absurd h
