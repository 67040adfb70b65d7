-- What is picked at the numbers from one on.
use Rattle.std.proofs.Common.{arith, ◌≡◌, ◌∙◌, ◌↔◌, ◌⊎◌, inl, inr, ℕ, zero, suc, ◌+◌, ◌<◌, ◌≤◌, List, [], ◌∷◌, map, Option, Some, None, refl, sym, ap, subst}
use Rattle.std.specs.Cmp.{nat_cmp_is}
use Rattle.std.specs.Ordering.{nat_cmp}
use Rattle.std.specs.declared.cmp.Ordering.TheVariants.{Less}
use Rattle.std.proofs.lemmas.Bool.{cases_lt}
use Rattle.std.proofs.lemmas.Cmp.{nat_cmp_total}
use Rattle.twin_report_laws.specs.order_laws.walk_laws.Ordered.{IsShown}
use Rattle.twin_report_laws.proofs.order_laws.walk_laws.Orders.{Member, Behind, Rises, nil_rises, cons_rises, shown_is}

pub less_is : (a b : ℕ) → a < b → nat_cmp a b ≡ Less
less_is a b lt = sym (nat_cmp_is a b Less lt)

module _ {Y : Type 0} where
  abbrev pub entry : Option Y → ℕ → List (ℕ × Y) → List (ℕ × Y)
  entry None a rest = rest
  entry (Some y) a rest = (a, y) ∷ rest

  entry_behind : (j a : ℕ) (rest : List (ℕ × Y)) → j < a → Behind nat_cmp j rest → (o : Option Y) → Behind nat_cmp j (entry o a rest)
  entry_behind j a rest lt later None = later
  entry_behind j a rest lt later (Some y) = (less_is j a lt, later)

  entry_rises : (a : ℕ) (rest : List (ℕ × Y)) → Behind nat_cmp a rest → Rises nat_cmp rest → (o : Option Y) → Rises nat_cmp (entry o a rest)
  entry_rises a rest behind rises None = rises
  entry_rises a rest behind rises (Some y) = cons_rises nat_cmp (a, y) rest behind rises

  entry_keeps : (a : ℕ) (rest : List (ℕ × Y)) (e : ℕ × Y) → Member rest e → (o : Option Y) → Member (entry o a rest) e
  entry_keeps a rest e m None = m
  entry_keeps a rest e m (Some y) = inr m

  module _ (pick : ℕ → Option Y) where
    abbrev pub picked : ℕ → ℕ → List (ℕ × Y)
    picked a zero = []
    picked a (suc n) = entry (pick a) a (picked (a + 1) n)

    behind : (j a n : ℕ) → j < a → Behind nat_cmp j (picked a n)
    behind j a zero lt = tt
    behind j a (suc n) lt = entry_behind j a (picked (a + 1) n) lt (behind j (a + 1) n (omega arith)) (pick a)

    rises : (a n : ℕ) → Rises nat_cmp (picked a n)
    rises a zero = nil_rises Y nat_cmp
    rises a (suc n) = entry_rises a (picked (a + 1) n) (behind a (a + 1) n (omega arith)) (rises (a + 1) n) (pick a)

    record IsPicked (a n : ℕ) (e : ℕ × Y) : Type 0 where
      low : a ≤ e.0
      high : e.0 < a + n
      there : pick e.0 ≡ Some e.1

    from : (a n : ℕ) (e : ℕ × Y) → Member (picked a n) e → IsPicked a n e
    from a zero e h = absurd h
    from a (suc n) e h = by (pick a) refl h (λ m. wider (from (a + 1) n e m))
      where
        wider : IsPicked (a + 1) n e → IsPicked a (suc n) e
        wider p = (let l = p.low in let h = p.high in record { low = omega (arith, l); high = omega (arith, h); there = p.there })

        by : (o : Option Y) → pick a ≡ o → Member (entry o a (picked (a + 1) n)) e → (Member (picked (a + 1) n) e → IsPicked a (suc n) e) → IsPicked a (suc n) e
        by None is m later = later m
        by (Some y) is (inl same) later =
            let first : a ≡ e.0 = ap (λ (d : ℕ × Y). d.0) same in
            record { low = omega (arith, first); high = omega (arith, first); there = ap pick (sym first) ∙ (is ∙ ap (λ (d : ℕ × Y). Some d.1) same) }
        by (Some y) is (inr m) later = later m

    stands : (a n k : ℕ) (y : Y) → a ≤ k → k < a + n → pick k ≡ Some y → Member (picked a n) (k, y)
    stands a zero k y low high at = absurd (omega (arith, low, high))
    stands a (suc n) k y low high at = by (cases_lt a k) (λ lt. stands (a + 1) n k y (omega (arith, lt)) (omega (arith, high)) at)
      where
        by : (a < k) ⊎ (k ≤ a) → (a < k → Member (picked (a + 1) n) (k, y)) → Member (picked a (suc n)) (k, y)
        by (inl lt) later = entry_keeps a (picked (a + 1) n) (k, y) (later lt) (pick a)
        by (inr le) later =
            let same : a ≡ k = omega (arith, low, le) in
            subst (λ (o : Option Y). Member (entry o a (picked (a + 1) n)) (k, y)) (sym (ap pick same ∙ at)) (inl (ap (λ (j : ℕ). (j, y)) same))

    pub picked_is : (count : ℕ) (Has : ℕ × Y → Type 0) → ((e : ℕ × Y) → Has e ↔ ((e.0 < count) × (pick e.0 ≡ Some e.1))) → {Z : Type 0} (shown : ℕ × Y → Z) (list : List Z)
        → (list ≡ map shown (picked 0 count)) ↔ IsShown nat_cmp Has shown list
    picked_is count Has each shown list =
        shown_is nat_cmp nat_cmp_total Has (picked 0 count) (rises 0 count)
        (λ e. (
          (λ m. let p = from 0 count e m in let h = p.high in (each e).1 (omega (arith, h), p.there)),
          λ h. let w = (each e).0 h in let lt = w.0 in stands 0 count e.0 e.1 (omega arith) (omega (arith, lt)) w.1,
        )) shown list
