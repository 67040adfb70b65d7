-- Where a relation leads from each number below n to one below m and back, and to each from one alone, m is no less than n.
use Rattle.std.proofs.Common.{arith, ◌≡◌, ◌<◌, ◌≤◌, ◌||◌, Bool, true, false, inl, inr, ℕ, zero, suc, List, [], ◌∷◌, length, refl, ap, subst, eq-eqb}
use Rattle.std.specs.List.{list_any}
use Rattle.std.proofs.lemmas.Bool.{cases_lt}
use Rattle.std.proofs.lemmas.Map.Steps.{le-length_from_below}
use lib.Dec.{eqb}

left_true : (a b : Bool) → a ≡ true → (a || b) ≡ true
left_true a b e = ap (λ (x : Bool). x || b) e

right_true : (a b : Bool) → b ≡ true → (a || b) ≡ true
right_true true b e = refl
right_true false b e = e

-- what leads to the first so many numbers
record Leading (R : ℕ → ℕ → Type 0) (k : ℕ) : Type 0 where
  list : List ℕ
  many : length list ≡ k
  has : (i j : ℕ) → j < k → R i j → list_any (eqb i) list ≡ true

module _ (n m : ℕ) (R : ℕ → ℕ → Type 0) (back : (j : ℕ) → j < m → (i : ℕ) × R i j) (once : (i h j : ℕ) → R i j → R h j → i ≡ h) where
  leading : (k : ℕ) → k ≤ m → Leading R k
  leading zero le = record { list = []; many = refl; has = λ i j lt r. absurd (omega arith) }
  leading (suc k) le =
      let before : Leading R k = leading k (omega arith) in
      let next : (i : ℕ) × R i k = back k (omega arith) in
      record {
        list = next.0 ∷ before.list;
        many = ap (λ (x : ℕ). suc x) before.many;
        has = λ i j lt r. elim (cases_lt j k) [
          | inl less ↦ right_true (eqb i next.0) (list_any (eqb i) before.list) (before.has i j less r)
          | inr not_less ↦
              let is : j ≡ k = omega arith in
              let same : i ≡ next.0 = once i next.0 k (subst (λ (x : ℕ). R i x) is r) next.1 in
              left_true (eqb i next.0) (list_any (eqb i) before.list) (eq-eqb i next.0 same)
        ];
      }

  pub no_more : ((i : ℕ) → i < n → (j : ℕ) × (j < m) × R i j) → n ≤ m
  no_more forth =
      let whole : Leading R m = leading m (omega arith) in
      let le : n ≤ length whole.list = le-length_from_below whole.list n (λ i lt. let there = forth i lt in whole.has i there.0 there.1 there.2) in
      let many = whole.many in
      omega arith
