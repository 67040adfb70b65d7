-- Pairs of numbers by their test and by their order.
use Rattle.std.proofs.Common.{◌≡◌, ◌≢◌, ℕ, Bool, true, false, ◌&&◌, eqb, MatchBool, not, List, [], ◌∷◌, get_or, refl, sym, ap, ap₂, ◌∙◌, subst, eqb-true, eq-eqb, true≢false}
use Rattle.std.proofs.lemmas.Bool.{and_parts, and_from}
use Rattle.std.specs.Cmp.{IsEquivalence, IsTotalOrder, both_ways}
use Rattle.std.specs.declared.cmp.Ordering.{Ordering}
use Rattle.std.specs.declared.cmp.Ordering.TheVariants.{Less, Equal, Greater}
use Rattle.std.specs.Ordering.{is_eq, eq_by_cmp, nat_cmp}
use Rattle.std.specs.List.{IsDistinct}
use Rattle.std.specs.List.Sorted.{IsStrictlySortedBy}
use Rattle.std.proofs.lemmas.Cmp.{nat_eq_equiv, nat_cmp_total, on_total, then_total, eq_by_cmp_equiv}
use Rattle.std.proofs.lemmas.Map.Keys.{apart_from_distinct}
use Rattle.std.proofs.lemmas.Map.Lookups.{CmpEqualImpliesEq, exact_pairs, exact_unsigned}
use Rattle.edge_book.specs.Edges.{AreApart, same_pair, pair_order}

pub pair_exact : (x y : ℕ × ℕ) → same_pair x y ≡ true → x ≡ y
pair_exact x y h = let p = and_parts (eqb x.0 y.0) (eqb x.1 y.1) h in λ i. (eqb-true x.0 y.0 p.0 i, eqb-true x.1 y.1 p.1 i)

pub pair_same : (x y : ℕ × ℕ) → x ≡ y → same_pair x y ≡ true
pair_same x y e = and_from (eqb x.0 y.0) (eqb x.1 y.1) (eq-eqb x.0 y.0 (ap (λ (p : ℕ × ℕ). p.0) e)) (eq-eqb x.1 y.1 (ap (λ (p : ℕ × ℕ). p.1) e))

pub pair_equiv : IsEquivalence same_pair
pair_equiv = record {
  refl = λ x. pair_same x x refl;
  symm = λ x y. ap₂ (λ (a b : Bool). a && b) (nat_eq_equiv.symm x.0 y.0) (nat_eq_equiv.symm x.1 y.1);
  congr = λ x y z e. ap (λ (w : ℕ × ℕ). same_pair w z) (pair_exact x y e);
}

-- what a set without equal keys says
pub apart : (edges : List (ℕ × ℕ)) → IsDistinct same_pair edges → AreApart edges
apart edges distinct i j d lt long e = true≢false (sym (pair_same (get_or edges i d) (get_or edges j d) e) ∙ apart_from_distinct same_pair edges i j d distinct lt long)

pub told : (new has : Bool) (P : Type 0) → new ≡ not has → (has ≡ true → P) → (P → has ≡ true) → MatchBool new (P → ⊥) P
told true true P e to from = absurd (true≢false e)
told true false P e to from = λ p. true≢false (sym (from p))
told false true P e to from = to refl
told false false P e to from = absurd (true≢false (sym e))

pub pair_total : IsTotalOrder pair_order
pair_total = then_total (on_total (λ (p : ℕ × ℕ). p.0) nat_cmp_total) (on_total (λ (p : ℕ × ℕ). p.1) nat_cmp_total)

pub order_exact : CmpEqualImpliesEq pair_order
order_exact = exact_pairs nat_cmp nat_cmp exact_unsigned exact_unsigned

equal : (o : Ordering) → is_eq o ≡ true → o ≡ Equal
equal Less e = absurd (true≢false (sym e))
equal Equal e = refl
equal Greater e = absurd (true≢false (sym e))

pub pair_ties : (x y : ℕ × ℕ) → same_pair x y ≡ eq_by_cmp pair_order x y
pair_ties x y = both_ways (same_pair x y) (eq_by_cmp pair_order x y)
    (λ t. subst (λ (z : ℕ × ℕ). eq_by_cmp pair_order x z ≡ true) (pair_exact x y t) ((eq_by_cmp_equiv pair_total).refl x))
    (λ t. pair_same x y (order_exact x y (equal (pair_order x y) t)))

-- a pair isn't before itself
pub not_before : (x : ℕ × ℕ) → pair_order x x ≢ Less
not_before x e = let same : is_eq (pair_order x x) ≡ true = (eq_by_cmp_equiv pair_total).refl x in true≢false (sym same ∙ ap is_eq e)

pub none_ordered : IsStrictlySortedBy pair_order []
unfolding IsStrictlySortedBy
none_ordered = tt

pub one_ordered : (x : ℕ × ℕ) → IsStrictlySortedBy pair_order (x ∷ [])
unfolding IsStrictlySortedBy
one_ordered x = (tt, tt)
