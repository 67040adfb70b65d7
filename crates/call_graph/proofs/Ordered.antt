-- A sorted list of pairs in which equal neighbours are dropped is in order, and two lists in order with the same pairs
-- are one.
use Rattle.std.proofs.Common.{◌≡◌, ℕ, zero, suc, ◌+◌, ◌⊎◌, ◌&&◌, eqb, Bool, true, false, List, [], ◌∷◌, get_or, All, Contains, refl, sym, ◌∙◌, ap, subst, inl, inr, arith}
use Rattle.std.specs.List.{dedup, dedup_from}
use Rattle.std.specs.List.Sorted.{IsSorted}
use Rattle.std.specs.Ordering.{is_lt, ordering_then, nat_cmp}
use Rattle.std.specs.declared.cmp.Ordering.TheVariants.{Less, Equal}
use Rattle.std.specs.Cmp.{nat_cmp_is, IsEquivalence}
use Rattle.std.proofs.lemmas.Cmp.{nat_eq_equiv, on_equiv, and_equiv}
use Rattle.std.proofs.lemmas.Bool.{cases_Bool, cases_lt, cases_eq, and_parts, and_from, eqb-true, eq-eqb, false≢true}
use Rattle.std.proofs.lemmas.List.Elements.{All-cons, All-nil}
use Rattle.std.proofs.lemmas.List.Kept.{AllPairs-cons}
use Rattle.call_graph.specs.Order.{IsBefore, IsInOrder}

-- whether two pairs are equal, as a program compares them
abbrev pub same_pair : ℕ × ℕ → ℕ × ℕ → Bool
same_pair one other = eqb one.0 other.0 && eqb one.1 other.1

pair_is : (one other : ℕ × ℕ) → one.0 ≡ other.0 → one.1 ≡ other.1 → one ≡ other
pair_is one other e f = λ i. (e i, f i)

pub same_pair_is : (one other : ℕ × ℕ) → same_pair one other ≡ true → one ≡ other
same_pair_is one other h = let p = and_parts _ _ h in pair_is one other (eqb-true _ _ p.0) (eqb-true _ _ p.1)

pub same_pair_equiv : IsEquivalence same_pair
same_pair_equiv = and_equiv (on_equiv (λ (pair : ℕ × ℕ). pair.0) nat_eq_equiv) (on_equiv (λ (pair : ℕ × ℕ). pair.1) nat_eq_equiv)

-- the comparison that a sort makes
before_less : (a b c d : ℕ) → IsBefore (a, b) (c, d) → is_lt (ordering_then (nat_cmp a c) (nat_cmp b d)) ≡ true
before_less a b c d h = elim h [
  | inl lt ↦ ap (λ o. is_lt (ordering_then o (nat_cmp b d))) (sym (nat_cmp_is a c Less lt))
  | inr both ↦ ap (λ o. is_lt (ordering_then o (nat_cmp b d))) (sym (nat_cmp_is a c Equal both.0)) ∙ ap is_lt (sym (nat_cmp_is b d Less both.1))
]

-- pairs none of which is before the one in front of it, from a first one on
abbrev pub Ascends : ℕ × ℕ → List (ℕ × ℕ) → Type 0
Ascends first [] = Unit {0}
Ascends first (pair ∷ pairs) = (IsBefore pair first → ⊥) × Ascends pair pairs

-- whether a sort would put one pair before another
abbrev is_less : ℕ × ℕ → ℕ × ℕ → Bool
is_less one other = is_lt (ordering_then (nat_cmp one.0 other.0) (nat_cmp one.1 other.1))

abbrev IsSortedPairs : List (ℕ × ℕ) → Type 0
IsSortedPairs = IsSorted (λ one other. ordering_then (nat_cmp one.0 other.0) (nat_cmp one.1 other.1))

sorted_rest : (pair : ℕ × ℕ) (pairs : List (ℕ × ℕ)) → IsSortedPairs (pair ∷ pairs) → IsSortedPairs pairs
sorted_rest pair pairs sorted k d low high =
    let next : suc k + 1 ≡ suc (k + 1) = omega arith in
    subst (λ n. is_less (get_or (pair ∷ pairs) n d) (get_or pairs k d) ≡ false) next (sorted (suc k) d (omega arith) (omega arith))

pub ascends_sorted : (first : ℕ × ℕ) (pairs : List (ℕ × ℕ)) → IsSortedPairs (first ∷ pairs) → Ascends first pairs
ascends_sorted first [] sorted = tt
ascends_sorted first (pair ∷ pairs) sorted = (
  (λ before. false≢true (sym (sorted 0 first (omega arith) (omega arith)) ∙ before_less pair.0 pair.1 first.0 first.1 before)),
  ascends_sorted pair pairs (sorted_rest first (pair ∷ pairs) sorted),
)

between : (first pair : ℕ × ℕ) → (IsBefore pair first → ⊥) → same_pair pair first ≡ false → IsBefore first pair
between first pair h other = elim (cases_lt first.0 pair.0) [
  | inl lt ↦ inl lt
  | inr ge ↦ elim (cases_eq pair.0 first.0) [
    | inl e ↦ elim (cases_lt first.1 pair.1) [
      | inl lt ↦ inr (sym e, lt)
      | inr le ↦ elim (cases_eq pair.1 first.1) [
        | inl f ↦ absurd (false≢true (sym other ∙ and_from _ _ (eq-eqb _ _ e) (eq-eqb _ _ f)))
        | inr f ↦ absurd (h (inr (e, omega arith)))
      ]
    ]
    | inr e ↦ absurd (h (inl (omega arith)))
  ]
]

before_then : (one two three : ℕ × ℕ) → IsBefore one two → IsBefore two three → IsBefore one three
before_then one two three h k = elim h [
  | inl lt ↦ elim k [ inl other ↦ inl (omega arith) | inr other ↦ inl (let e = other.0 in omega arith) ]
  | inr both ↦ elim k [
    | inl other ↦ inl (let e = both.0 in omega arith)
    | inr other ↦ inr (both.0 ∙ other.0, (let a = both.1 in let b = other.1 in omega arith))
  ]
]

-- what is before the first of pairs that ascend is before all that are left
before_all : (one first : ℕ × ℕ) (pairs : List (ℕ × ℕ)) → IsBefore one first → Ascends first pairs → All (IsBefore one) (dedup_from same_pair first pairs)
before_all one first [] before ascends = All-cons (IsBefore one) first [] before (All-nil (IsBefore one))
before_all one first (pair ∷ pairs) before ascends = elim (cases_Bool (same_pair pair first)) [
  | inl same ↦ rw same (before_all one first pairs before (subst (λ p. Ascends p pairs) (same_pair_is pair first same) ascends.1))
  | inr other ↦ rw other
      (All-cons (IsBefore one) first (dedup_from same_pair pair pairs) before
      (before_all one pair pairs (before_then one first pair before (between first pair ascends.0 other)) ascends.1))
]

pub ordered_from : (first : ℕ × ℕ) (pairs : List (ℕ × ℕ)) → Ascends first pairs → IsInOrder (dedup_from same_pair first pairs)
ordered_from first [] ascends = λ i j d h k. absurd (omega arith)
ordered_from first (pair ∷ pairs) ascends = elim (cases_Bool (same_pair pair first)) [
  | inl same ↦ rw same (ordered_from first pairs (subst (λ p. Ascends p pairs) (same_pair_is pair first same) ascends.1))
  | inr other ↦ rw other
      (AllPairs-cons IsBefore first (dedup_from same_pair pair pairs)
      (before_all first pair pairs (between first pair ascends.0 other) ascends.1)
      (ordered_from pair pairs ascends.1))
]

pub ordered_dedup : (pairs : List (ℕ × ℕ)) → IsSortedPairs pairs → IsInOrder (dedup same_pair pairs)
ordered_dedup [] sorted = λ i j d h k. absurd (omega arith)
ordered_dedup (pair ∷ pairs) sorted = ordered_from pair pairs (ascends_sorted pair pairs sorted)

-- ---- one list
tail_order : (pair : ℕ × ℕ) (pairs : List (ℕ × ℕ)) → IsInOrder (pair ∷ pairs) → IsInOrder pairs
tail_order pair pairs order i j d h k = order (suc i) (suc j) d (omega arith) (omega arith)

-- what stands behind the first pair is after it
after_first : (pair : ℕ × ℕ) (pairs : List (ℕ × ℕ)) (other : ℕ × ℕ) → IsInOrder (pair ∷ pairs) → Contains pairs other → IsBefore pair other
after_first pair pairs other order h = subst (IsBefore pair) h.2 (order 0 (suc h.0) other (omega arith) (let lt = h.1 in omega arith))

not_before_itself : (pair : ℕ × ℕ) → IsBefore pair pair → ⊥
not_before_itself pair h = elim h [ inl lt ↦ omega arith | inr both ↦ (let lt = both.1 in omega arith) ]

behind : (pair : ℕ × ℕ) (pairs : List (ℕ × ℕ)) (other : ℕ × ℕ) → Contains pairs other → Contains (pair ∷ pairs) other
behind pair pairs other h = (suc h.0, (let lt = h.1 in omega arith), h.2)

first_in : (pair : ℕ × ℕ) (pairs : List (ℕ × ℕ)) → Contains (pair ∷ pairs) pair
first_in pair pairs = (0, omega arith, refl)

first_or_behind : (pair : ℕ × ℕ) (pairs : List (ℕ × ℕ)) (other : ℕ × ℕ) → Contains (pair ∷ pairs) other → (pair ≡ other) ⊎ Contains pairs other
first_or_behind pair pairs other (zero, lt, is) = inl is
first_or_behind pair pairs other (suc k, lt, is) = inr (k, omega arith, is)

-- what the first of one list is: the first of the other
same_first : (x y : ℕ × ℕ) (xs ys : List (ℕ × ℕ)) → IsInOrder (x ∷ xs) → IsInOrder (y ∷ ys) → Contains (y ∷ ys) x → Contains (x ∷ xs) y → x ≡ y
same_first x y xs ys one other in_other in_one = elim (first_or_behind y ys x in_other) [
  | inl same ↦ sym same
  | inr late ↦ elim (first_or_behind x xs y in_one) [
    | inl same ↦ same
    | inr later ↦ absurd (not_before_itself x (before_then x y x (after_first x xs y one later) (after_first y ys x other late)))
  ]
]

rest_in : (x : ℕ × ℕ) (xs ys : List (ℕ × ℕ)) (pair : ℕ × ℕ) → IsInOrder (x ∷ xs) → ((p : ℕ × ℕ) → Contains (x ∷ xs) p → Contains (x ∷ ys) p) → Contains xs pair → Contains ys pair
rest_in x xs ys pair order all h = elim (first_or_behind x ys pair (all pair (behind x xs pair h))) [
  | inl same ↦ absurd (not_before_itself x (subst (IsBefore x) (sym same) (after_first x xs pair order h)))
  | inr there ↦ there
]

-- two lists in order that have the same pairs are one
pub one_list : (xs ys : List (ℕ × ℕ)) → IsInOrder xs → IsInOrder ys → ((pair : ℕ × ℕ) → Contains xs pair → Contains ys pair) → ((pair : ℕ × ℕ) → Contains ys pair → Contains xs pair) → xs ≡ ys
one_list [] [] one other to from = refl
one_list [] (y ∷ ys) one other to from = absurd (let h = from y (first_in y ys) in omega (arith, h.1))
one_list (x ∷ xs) [] one other to from = absurd (let h = to x (first_in x xs) in omega (arith, h.1))
one_list (x ∷ xs) (y ∷ ys) one other to from =
    let same : x ≡ y = same_first x y xs ys one other (to x (first_in x xs)) (from y (first_in y ys)) in
    let other' : IsInOrder (x ∷ ys) = subst (λ p. IsInOrder (p ∷ ys)) (sym same) other in
    let to' : (p : ℕ × ℕ) → Contains (x ∷ xs) p → Contains (x ∷ ys) p = subst (λ q. (p : ℕ × ℕ) → Contains (x ∷ xs) p → Contains (q ∷ ys) p) (sym same) to in
    let from' : (p : ℕ × ℕ) → Contains (x ∷ ys) p → Contains (x ∷ xs) p = subst (λ q. (p : ℕ × ℕ) → Contains (q ∷ ys) p → Contains (x ∷ xs) p) (sym same) from in
    let rest : xs ≡ ys = one_list xs ys (tail_order x xs one) (tail_order x ys other') (λ p h. rest_in x xs ys p one to' h) (λ p h. rest_in x ys xs p other' from' h) in
    ap (λ zs. x ∷ zs) rest ∙ ap (λ z. z ∷ ys) same
