-- Sums over the numbers below one, and over the parts of the nodes below one.
use Rattle.std.proofs.Common.{arith, ◌≡◌, ◌<◌, ◌≤◌, ◌+◌, ℕ, zero, suc, nat_eq, nat_lt, Bool, true, false, List, [], ◌∷◌, lt-ltb, refl, ap, subst}
use Rattle.std.specs.Prelude.{if◌then◌else◌}
use Rattle.std.proofs.lemmas.Bool.{eqb-true, eqb-false, ltb-true}
use Rattle.core_node_laws.specs.count_laws.count_rows.Covers.{IsIn}
use Rattle.core_node_laws.specs.count_laws.Counting.{sum_below}
use Rattle.core_node_laws.proofs.count_laws.once_nodes.Found.{some_one}

pub sums_less : (f h : ℕ → ℕ) (k : ℕ) → ((i : ℕ) → f i ≤ h i) → sum_below f k ≤ sum_below h k
sums_less f h zero le = omega arith
sums_less f h (suc k) le = let more = sums_less f h k le in let last = le k in omega (arith, more, last)

pub sums_more : (f h : ℕ → ℕ) (k q g : ℕ) → ((i : ℕ) → f i ≤ h i) → q < k → f q + g ≤ h q → sum_below f k + g ≤ sum_below h k
sums_more f h zero q g le lt more = absurd (omega (arith, lt))
sums_more f h (suc k) q g le lt more = by (nat_eq q k) refl (λ less. sums_more f h k q g le less more)
  where
    by : (b : Bool) → nat_eq q k ≡ b → (q < k → sum_below f k + g ≤ sum_below h k) → sum_below f k + f k + g ≤ sum_below h k + h k
    by true e later =
        let same = eqb-true q k e in
        let all = sums_less f h k le in
        let last : f k + g ≤ h k = subst (λ (i : ℕ). f i + g ≤ h i) same more in
        omega (arith, all, last)
    by false e later = let differ = eqb-false q k e in let rest = later (omega (arith, lt, differ)) in let last = le k in omega (arith, rest, last)

-- what is below a number
abbrev if_below : ℕ → (ℕ → ℕ) → ℕ → ℕ
if_below k g c = if nat_lt c k then g c else 0

abbrev part : ℕ → (ℕ → ℕ) → List ℕ → ℕ
part k g [] = 0
part k g (c ∷ rest) = if_below k g c + part k g rest

abbrev pub total : (ℕ → ℕ) → List ℕ → ℕ
total g [] = 0
total g (c ∷ rest) = g c + total g rest

below_is : (k c : ℕ) (g : ℕ → ℕ) → c < k → if_below k g c ≡ g c
below_is k c g lt = ap (λ (b : Bool). if b then g c else 0) (lt-ltb c k lt)

below_most : (k c : ℕ) (g : ℕ → ℕ) → if_below k g c ≤ g c
below_most k c g = by (nat_lt c k)
  where
    by : (b : Bool) → (if b then g c else 0) ≤ g c
    by true = omega arith
    by false = omega arith

below_grows : (k c : ℕ) (g : ℕ → ℕ) → if_below k g c ≤ if_below (suc k) g c
below_grows k c g = by (nat_lt c k) refl
  where
    by : (b : Bool) → nat_lt c k ≡ b → (if b then g c else 0) ≤ if_below (suc k) g c
    by true e = let lt = ltb-true c k e in let same = below_is (suc k) c g (omega (arith, lt)) in omega (arith, same)
    by false e = omega arith

below_more : (k c : ℕ) (g : ℕ → ℕ) → c ≡ k → if_below k g c + g k ≤ if_below (suc k) g c
below_more k c g same = by (nat_lt c k) refl
  where
    by : (b : Bool) → nat_lt c k ≡ b → (if b then g c else 0) + g k ≤ if_below (suc k) g c
    by true e = let lt = ltb-true c k e in absurd (omega (arith, lt, same))
    by false e = let own = below_is (suc k) c g (omega (arith, same)) in let one : g c ≡ g k = ap g same in omega (arith, own, one)

part_most : (k : ℕ) (g : ℕ → ℕ) (list : List ℕ) → part k g list ≤ total g list
part_most k g [] = omega arith
part_most k g (c ∷ rest) = let a = below_most k c g in let b = part_most k g rest in omega (arith, a, b)

part_grows : (k : ℕ) (g : ℕ → ℕ) (list : List ℕ) → part k g list ≤ part (suc k) g list
part_grows k g [] = omega arith
part_grows k g (c ∷ rest) = let a = below_grows k c g in let b = part_grows k g rest in omega (arith, a, b)

part_more : (k : ℕ) (g : ℕ → ℕ) (list : List ℕ) → IsIn list k → part k g list + g k ≤ part (suc k) g list
part_more k g [] (j, at) = cc
part_more k g (c ∷ rest) (zero, at) = let a = below_more k c g (some_one at) in let b = part_grows k g rest in omega (arith, a, b)
part_more k g (c ∷ rest) (suc j, at) = let a = below_grows k c g in let b = part_more k g rest (j, at) in omega (arith, a, b)

-- each number that counts is in the list of one below a number: the lists have all that counts
module _ (g : ℕ → ℕ) (lists : ℕ → List ℕ) (n : ℕ) (held : (i : ℕ) → i < n → 1 ≤ g i → (q : ℕ) × (q < n) × IsIn (lists q) i) where
  all_to : (k : ℕ) → k ≤ n → sum_below g k ≤ sum_below (λ q. part k g (lists q)) n
  all_to zero le = omega arith
  all_to (suc k) le = by (g k) refl (all_to k (omega (arith, le)))
    where
      grown : sum_below (λ q. part k g (lists q)) n ≤ sum_below (λ q. part (suc k) g (lists q)) n
      grown = sums_less (λ q. part k g (lists q)) (λ q. part (suc k) g (lists q)) n (λ q. part_grows k g (lists q))

      by : (x : ℕ) → g k ≡ x → sum_below g k ≤ sum_below (λ q. part k g (lists q)) n → sum_below g k + g k ≤ sum_below (λ q. part (suc k) g (lists q)) n
      by zero e before = let more = grown in omega (arith, e, before, more)
      by (suc x) e before =
          let (q, lt, at) = held k (omega (arith, le)) (omega (arith, e)) in
          let more = sums_more (λ q. part k g (lists q)) (λ q. part (suc k) g (lists q)) n q (g k) (λ q. part_grows k g (lists q)) lt (part_more k g (lists q) at) in
          omega (arith, before, more)

  -- and one that has more makes it more
  pub lists_more : (h : ℕ → ℕ) (q : ℕ) → ((i : ℕ) → total g (lists i) ≤ h i) → q < n → total g (lists q) + 1 ≤ h q → sum_below g n + 1 ≤ sum_below h n
  lists_more h q le lt more =
      let all = all_to n (omega arith) in
      let less = sums_less (λ i. part n g (lists i)) (λ i. total g (lists i)) n (λ i. part_most n g (lists i)) in
      let strict = sums_more (λ i. total g (lists i)) h n q 1 le lt more in
      omega (arith, all, less, strict)
