-- Leaves that differ.
use Rattle.std.proofs.Common.{arith, ◌≡◌, ℕ, suc, true, false, inl, inr, sym, ap}
use Rattle.std.proofs.lemmas.Bool.Decides.{leb_tells}
use Rattle.std.specs.Ordering.{nat_cmp, is_eq}
use Rattle.std.specs.Cmp.{nat_cmp_is}
use Rattle.std.specs.declared.cmp.Ordering.TheVariants.{Less, Equal, Greater}

pub not_equal : (x y : ℕ) → (x ≡ y → ⊥) → is_eq (nat_cmp x y) ≡ false
not_equal x y apart =
    elim (leb_tells (suc x) y) [
      | inl less ↦ let lt = less.1 in ap is_eq (sym (nat_cmp_is x y Less (omega arith)))
      | inr more ↦ let ge = more.1 in ap is_eq (sym (nat_cmp_is x y Greater (omega arith)))
    ]

pub equal_to : (x y : ℕ) → x ≡ y → is_eq (nat_cmp x y) ≡ true
equal_to x y same = ap is_eq (sym (nat_cmp_is x y Equal same))
