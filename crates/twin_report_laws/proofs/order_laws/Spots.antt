-- The order of places, and entries whose numbers rise.
use Rattle.std.proofs.Common.{arith, ◌≡◌, ◌∙◌, ℕ, ◌+◌, ◌≤◌, List, [], ◌∷◌, inl, inr, refl, sym, ap, subst}
use Rattle.std.specs.Prelude.{⊤}
use Rattle.std.specs.Cmp.{IsTotalOrder}
use Rattle.std.specs.Ordering.{nat_cmp, ordering_then}
use Rattle.std.specs.declared.cmp.Ordering.{Ordering}
use Rattle.std.specs.declared.cmp.Ordering.TheVariants.{Less, Equal, Greater}
use Rattle.std.proofs.lemmas.Cmp.{ranked, nat_cmp_total, on_total, then_total}
use Rattle.obj_made.specs.Made.{Spot, by_place}
use Rattle.twin_report_laws.proofs.order_laws.walk_laws.Orders.{Member, IsKeyed}

pub by_place_total : IsTotalOrder by_place
by_place_total =
    then_total (on_total (λ (s : Spot). s.0) nat_cmp_total)
    (then_total (on_total (λ (s : Spot). s.1) nat_cmp_total) (then_total (on_total (λ (s : Spot). s.2) nat_cmp_total) (on_total (λ (s : Spot). s.3) nat_cmp_total)))

then_equal : (o q : Ordering) → ordering_then o q ≡ Equal → (o ≡ Equal) × (q ≡ Equal)
then_equal Less q e = absurd (cc)
then_equal Equal q e = (refl, e)
then_equal Greater q e = absurd (cc)

nat_equal : (a b : ℕ) → nat_cmp a b ≡ Equal → a ≡ b
nat_equal a b e = ranked a b Equal (sym e)

abbrev spot : ℕ → ℕ → ℕ → ℕ → Spot
spot unit line column number = (unit, line, column, number)

-- spots that aren't told apart are one
pub by_place_exact : (a b : Spot) → by_place a b ≡ Equal → a ≡ b
by_place_exact a b e =
    let one = then_equal (nat_cmp a.0 b.0) _ e in
    let two = then_equal (nat_cmp a.1 b.1) _ one.1 in
    let three = then_equal (nat_cmp a.2 b.2) _ two.1 in
    ap (λ (n : ℕ). spot n a.1 a.2 a.3) (nat_equal a.0 b.0 one.0)
    ∙ (ap (λ (n : ℕ). spot b.0 n a.2 a.3) (nat_equal a.1 b.1 two.0)
    ∙ (ap (λ (n : ℕ). spot b.0 b.1 n a.3) (nat_equal a.2 b.2 three.0) ∙ ap (λ (n : ℕ). spot b.0 b.1 b.2 n) (nat_equal a.3 b.3 three.1)))

module _ {X : Type 0} where
  -- the numbers of these entries rise, from one on
  abbrev pub NumbersRise : ℕ → List (Spot × X) → Type 0
  NumbersRise k [] = ⊤
  NumbersRise k (m ∷ rest) = (k ≤ m.0.3) × NumbersRise (m.0.3 + 1) rest

  pub rise_less : (j k : ℕ) (ms : List (Spot × X)) → j ≤ k → NumbersRise k ms → NumbersRise j ms
  rise_less j k [] le h = tt
  rise_less j k (m ∷ rest) le h = (let low = h.0 in omega (arith, le, low), h.1)

  rise_from : (k : ℕ) (ms : List (Spot × X)) → NumbersRise k ms → (e : Spot × X) → Member ms e → k ≤ e.0.3
  rise_from k [] h e there = absurd there
  rise_from k (m ∷ rest) h e (inl same) = subst (λ (x : Spot × X). k ≤ x.0.3) same h.0
  rise_from k (m ∷ rest) h e (inr more) =
      let later = rise_from (m.0.3 + 1) rest h.1 e more in
      let low = h.0 in
      omega (arith, low, later)

  one_number : (k : ℕ) (ms : List (Spot × X)) → NumbersRise k ms → (a b : Spot × X) → Member ms a → Member ms b → a.0.3 ≡ b.0.3 → a ≡ b
  one_number k [] h a b p q e = absurd p
  one_number k (m ∷ rest) h a b (inl x) (inl y) e = sym x ∙ y
  one_number k (m ∷ rest) h a b (inl x) (inr more) e =
      let later = rise_from (m.0.3 + 1) rest h.1 b more in
      let same = ap (λ (z : Spot × X). z.0.3) x in
      absurd (omega (arith, later, same, e))
  one_number k (m ∷ rest) h a b (inr more) (inl y) e =
      let later = rise_from (m.0.3 + 1) rest h.1 a more in
      let same = ap (λ (z : Spot × X). z.0.3) y in
      absurd (omega (arith, later, same, e))
  one_number k (m ∷ rest) h a b (inr p) (inr q) e = one_number (m.0.3 + 1) rest h.1 a b p q e

  -- so each spot stands once
  pub risen_keyed : (k : ℕ) (ms : List (Spot × X)) → NumbersRise k ms → IsKeyed ms
  risen_keyed k ms h a b p q e = one_number k ms h a b p q (ap (λ (s : Spot). s.3) e)
