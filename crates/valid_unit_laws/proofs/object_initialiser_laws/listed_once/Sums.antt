-- How often a list has a number, and sums over lists that ascend.
use Rattle.std.proofs.Common.{arith, ◌≡◌, ◌≤◌, ◌+◌, ℕ, zero, suc, nat_eq, eq-eqb, Bool, true, false, ◌||◌, List, [], ◌∷◌, ◌++◌, Some, slice_get, refl, ap, ◌⊎◌, inl, inr}
use Rattle.std.specs.Prelude.{if◌then◌else◌}
use Rattle.c_grammar.specs.Terminals.{contains}
use Rattle.parsed_tree_laws.specs.family_laws.Families.{Ascend}
use Rattle.core_node_laws.proofs.count_laws.Rooms.{sum_of}
use Rattle.valid_unit_laws.proofs.object_initialiser_laws.listed_declarations.Apart.{member, head_in, next_in}

abbrev pub one_if : Bool → ℕ
one_if b = if b then 1 else 0

pub most_one : (b : Bool) → one_if b ≤ 1
most_one true = omega arith
most_one false = omega arith

pub is_one : (b : Bool) → 1 ≤ one_if b → b ≡ true
is_one true h = refl
is_one false h = absurd (omega (arith, h))

pub one_is : (b : Bool) → b ≡ true → 1 ≤ one_if b
one_is true e = omega arith
one_is false e = cc

pub less_if : (a b : Bool) → (a ≡ true → b ≡ true) → one_if a ≤ one_if b
less_if true b h = one_is b (h refl)
less_if false b h = omega arith

-- two numbers that are one at most, and not both
pub one_of_two : (m n : ℕ) → m ≤ 1 → n ≤ 1 → (1 ≤ m → 1 ≤ n → ⊥) → m + n ≤ 1
one_of_two zero n a b h = omega (arith, b)
one_of_two (suc m) zero a b h = omega (arith, a)
one_of_two (suc m) (suc n) a b h = absurd (h (omega arith) (omega arith))

abbrev pub occurs : List ℕ → ℕ → ℕ
occurs [] d = 0
occurs (x ∷ xs) d = one_if (nat_eq x d) + occurs xs d

pub occurs_both : (xs ys : List ℕ) (d : ℕ) → occurs (xs ++ ys) d ≡ occurs xs d + occurs ys d
occurs_both [] ys d = omega arith
occurs_both (x ∷ xs) ys d = let h = occurs_both xs ys d in omega (arith, h)

pub occurs_in : (xs : List ℕ) (d : ℕ) → 1 ≤ occurs xs d → contains xs d ≡ true
occurs_in [] d h = absurd (omega (arith, h))
occurs_in (x ∷ xs) d h = by (nat_eq x d) h (occurs_in xs d)
  where
    by : (b : Bool) → 1 ≤ one_if b + occurs xs d → (1 ≤ occurs xs d → contains xs d ≡ true) → (b || contains xs d) ≡ true
    by true h later = refl
    by false h later = later (omega (arith, h))

pub in_occurs : (xs : List ℕ) (d : ℕ) → contains xs d ≡ true → 1 ≤ occurs xs d
in_occurs [] d h = cc
in_occurs (x ∷ xs) d h = by (nat_eq x d) h (in_occurs xs d)
  where
    by : (b : Bool) → (b || contains xs d) ≡ true → (contains xs d ≡ true → 1 ≤ occurs xs d) → 1 ≤ one_if b + occurs xs d
    by true h later = omega arith
    by false h later = let more = later h in omega (arith, more)

own_one : (x d : ℕ) → x ≡ d → 1 ≤ one_if (nat_eq x d)
own_one x d same = one_is (nat_eq x d) (eq-eqb x d same)

placed_occurs : (xs : List ℕ) (d k : ℕ) → slice_get xs k ≡ Some d → 1 ≤ occurs xs d
placed_occurs [] d k e = cc
placed_occurs (x ∷ xs) d zero e = let same : x ≡ d = cc in let one = own_one x d same in omega (arith, one)
placed_occurs (x ∷ xs) d (suc k) e = let more = placed_occurs xs d k e in omega (arith, more)

-- a number that occurs once has one place
pub one_place : (xs : List ℕ) (d : ℕ) → occurs xs d ≤ 1 → (i j : ℕ) → slice_get xs i ≡ Some d → slice_get xs j ≡ Some d → i ≡ j
one_place [] d le i j e f = cc
one_place (x ∷ xs) d le zero zero e f = refl
one_place (x ∷ xs) d le zero (suc j) e f = let same : x ≡ d = cc in let one = own_one x d same in let more = placed_occurs xs d j f in absurd (omega (arith, le, one, more))
one_place (x ∷ xs) d le (suc i) zero e f = let same : x ≡ d = cc in let one = own_one x d same in let more = placed_occurs xs d i e in absurd (omega (arith, le, one, more))
one_place (x ∷ xs) d le (suc i) (suc j) e f = ap suc (one_place xs d (omega (arith, le)) i j e f)

-- ---- sums

module _ (g : ℕ → ℕ) where
  pub some_in : (ks : List ℕ) → 1 ≤ sum_of g ks → (c : ℕ) × (contains ks c ≡ true) × (1 ≤ g c)
  some_in [] h = absurd (omega (arith, h))
  some_in (k ∷ ks) h = by (g k) refl (λ more. let (c, inside, here) = some_in ks more in (c, next_in k c ks inside, here))
    where
      by : (n : ℕ) → g k ≡ n → (1 ≤ sum_of g ks → (c : ℕ) × (contains (k ∷ ks) c ≡ true) × (1 ≤ g c)) → (c : ℕ) × (contains (k ∷ ks) c ≡ true) × (1 ≤ g c)
      by zero e later = later (omega (arith, h, e))
      by (suc n) e later = (k, head_in k ks, omega (arith, e))

  above_low : (low : ℕ) (ks : List ℕ) (c : ℕ) → Ascend low ks → contains ks c ≡ true → low ≤ c
  above_low low [] c a h = cc
  above_low low (k ∷ ks) c a h = by (member k c ks h) (above_low (suc k) ks c a.1)
    where
      by : (k ≡ c) ⊎ (contains ks c ≡ true) → (contains ks c ≡ true → suc k ≤ c) → low ≤ c
      by (inl same) later = let le = a.0 in omega (arith, le, same)
      by (inr more) later = let le = a.0 in let less = later more in omega (arith, le, less)

  -- where one number of the list at most counts, and it counts once
  pub sum_once : (low : ℕ) (ks : List ℕ) → Ascend low ks → ((c : ℕ) → contains ks c ≡ true → g c ≤ 1) → ((c e : ℕ) → contains ks c ≡ true → contains ks e ≡ true → 1 ≤ g c → 1 ≤ g e → c ≡ e) → sum_of g ks ≤ 1
  sum_once low [] a most one = omega arith
  sum_once low (k ∷ ks) a most one =
      one_of_two (g k) (sum_of g ks) (most k (head_in k ks)) (sum_once (suc k) ks a.1 (λ c inside. most c (next_in k c ks inside)) (λ c e inc ine. one c e (next_in k c ks inc) (next_in k e ks ine)))
      (λ here more.
      let (c, inside, there) = some_in ks more in
      let same = one k c (head_in k ks) (next_in k c ks inside) here there in
      let less = above_low (suc k) ks c a.1 inside in
      omega (arith, same, less))
