-- The last number of an ascending list that passes a test and is below a bound.
use Rattle.std.proofs.Common.{arith, ◌≡◌, ◌∙◌, ℕ, zero, suc, ◌<◌, ◌≤◌, Bool, true, false, ◌&&◌, cond, List, [], ◌∷◌, length, take, drop, Option, Some, None, refl, sym, ap}
use Rattle.std.specs.Prelude.{nat_lt, slice_index}
use Rattle.std.proofs.lemmas.Bool.Decides.{nat_tests}
use Rattle.c_senses.specs.Tree.{last_where, last_or}
use Rattle.tree_reads.specs.Order.{ascends}
use Rattle.tree_reads.proofs.Ascending.{first_above, tail_ascends}

not_less : (x y : ℕ) → y ≤ x → nat_lt x y ≡ false
not_less x y h = grind (arith, nat_tests, h)

and_none : (a : Bool) → (a && false) ≡ false
and_none true = refl
and_none false = refl

-- what is taken of a list has the last one, where none is in the rest
last_taken : (test : ℕ → Bool) (xs : List ℕ) (k : ℕ) → last_where test (drop k xs) ≡ None → last_where test (take k xs) ≡ last_where test xs
last_taken test [] zero h = refl
last_taken test [] (suc k) h = refl
last_taken test (x ∷ xs) zero h = sym h
last_taken test (x ∷ xs) (suc k) h = ap (λ (o : Option ℕ). last_or o (cond (test x) (Some x) None)) (last_taken test xs k h)

module _ (test : ℕ → Bool) (bound : ℕ) where
  abbrev below : ℕ → Bool
  below c = test c && nat_lt c bound

  none_at : (x : ℕ) → bound ≤ x → below x ≡ false
  none_at x h = ap (λ (b : Bool). test x && b) (not_less x bound h) ∙ and_none (test x)

  none_all : (xs : List ℕ) → ascends xs ≡ true → (0 < length xs → bound ≤ slice_index xs 0) → last_where below xs ≡ None
  none_all [] h low = refl
  none_all (x ∷ xs) h low =
      let first : bound ≤ x = low (omega arith) in
      let rest = none_all xs (tail_ascends x xs h) (λ more. let less = first_above x xs zero h more in omega (arith, first, less)) in
      ap (λ (o : Option ℕ). last_or o (cond (below x) (Some x) None)) rest ∙ ap (λ (b : Bool). cond b (Some x) None) (none_at x first)

  none_behind : (xs : List ℕ) (k : ℕ) → ascends xs ≡ true → (k < length xs → bound ≤ slice_index xs k) → last_where below (drop k xs) ≡ None
  none_behind xs zero h low = none_all xs h low
  none_behind [] (suc k) h low = refl
  none_behind (x ∷ xs) (suc k) h low = none_behind xs k (tail_ascends x xs h) (λ lt. low (omega (arith, lt)))

  pub last_below : (xs : List ℕ) (k : ℕ) → ascends xs ≡ true → (k < length xs → bound ≤ slice_index xs k) → last_where below (take k xs) ≡ last_where below xs
  last_below xs k h low = last_taken below xs k (none_behind xs k h low)
