-- Sums over lists whose members are those of other lists, in another order.
use Rattle.std.proofs.Common.{arith, ◌≡◌, ◌∙◌, ◌+◌, ◌≤◌, ◌⊎◌, ℕ, zero, suc, List, [], ◌∷◌, Option, Some, None, refl, sym, ap, subst, inl, inr}
use Rattle.std.specs.Prelude.{sum}
use Rattle.std.specs.List.{slice_get}
use Rattle.std.proofs.lemmas.List.Sums.{sum_by-cons}

pub some_one : {X : Type 0} → {x y : X} → ◌≡◌ {A = Option X} (Some x) (Some y) → x ≡ y
some_one h = cc

pub none_some : {X : Type 0} → {x : X} → ◌≡◌ {A = Option X} None (Some x) → ⊥
none_some h = cc

pub sum-cons : (a : ℕ) (ns : List ℕ) → sum (a ∷ ns) ≡ a + sum ns
sum-cons a ns = sum_by-cons (λ (n : ℕ). n) a ns

-- a list with 0 in one position
cleared : List ℕ → ℕ → List ℕ
cleared [] j = []
cleared (b ∷ bs) zero = 0 ∷ bs
cleared (b ∷ bs) (suc j) = b ∷ cleared bs j

sum_cleared : (bs : List ℕ) (j b : ℕ) → slice_get bs j ≡ Some b → sum bs ≡ b + sum (cleared bs j)
unfolding cleared
sum_cleared [] j b at = absurd (none_some at)
sum_cleared (c ∷ bs) zero b at =
    let same : c ≡ b = some_one at in
    let one = sum-cons c bs in
    let two = sum-cons 0 bs in
    omega (arith, same, one, two)
sum_cleared (c ∷ bs) (suc j) b at =
    let one = sum-cons c bs in
    let two = sum-cons c (cleared bs j) in
    let more = sum_cleared bs j b at in
    omega (arith, one, two, more)

get_cleared : (bs : List ℕ) (j k b : ℕ) → (k ≡ j → ⊥) → slice_get bs k ≡ Some b → slice_get (cleared bs j) k ≡ Some b
unfolding cleared
get_cleared [] j k b other at = absurd (none_some at)
get_cleared (c ∷ bs) zero zero b other at = absurd (other refl)
get_cleared (c ∷ bs) zero (suc k) b other at = at
get_cleared (c ∷ bs) (suc j) zero b other at = at
get_cleared (c ∷ bs) (suc j) (suc k) b other at = get_cleared bs j k b (λ e. other (ap suc e)) at

-- where each position of one list has 0 or leads to a position of the other with as much, and no two to one, the sum is no greater
pub sum_within : (ns bs : List ℕ) (R : ℕ → ℕ → Type 0) → ((i a : ℕ) → slice_get ns i ≡ Some a → (a ≡ 0) ⊎ ((j : ℕ) × R i j × (slice_get bs j ≡ Some a))) → ((i h j : ℕ) → R i j → R h j → i ≡ h) → sum ns ≤ sum bs
sum_within [] bs R f once = omega arith
sum_within (a ∷ ns) bs R f once = elim (f zero a refl) [
  | inl none ↦
      let first = sum-cons a ns in
      let more = sum_within ns bs (λ i j. R (suc i) j) (λ i b at. f (suc i) b at) (λ i h j r s. same_before i h (once (suc i) (suc h) j r s)) in
      omega (arith, none, first, more)
  | inr here ↦
      let less = sum_cleared bs here.0 a here.2 in
      let first = sum-cons a ns in
      let more = sum_within ns (cleared bs here.0) (λ i j. R (suc i) j)
      (λ i b at. elim (f (suc i) b at) [
        | inl none ↦ inl none
        | inr there ↦
            let apart : there.0 ≡ here.0 → ⊥ = λ e. zero_suc i (once zero (suc i) here.0 here.1 (subst (λ (j : ℕ). R (suc i) j) e there.1)) in
            inr (there.0, there.1, get_cleared bs here.0 there.0 b apart there.2)
      ])
      (λ i h j r s. same_before i h (once (suc i) (suc h) j r s)) in
      omega (arith, less, first, more)
]
  where
    zero_suc : (i : ℕ) → zero ≡ suc i → ⊥
    zero_suc i e = omega (arith, e)

    same_before : (i h : ℕ) → suc i ≡ suc h → i ≡ h
    same_before i h e = omega (arith, e)

-- where the numbers of two lists are those of the other under numbers that lead back, their sums are one
pub sum_same : (ns bs : List ℕ) (to back : ℕ → ℕ) → ((i a : ℕ) → slice_get ns i ≡ Some a → slice_get bs (to i) ≡ Some a) → ((j b : ℕ) → slice_get bs j ≡ Some b → slice_get ns (back j) ≡ Some b)
    → ((i a : ℕ) → slice_get ns i ≡ Some a → back (to i) ≡ i) → ((j b : ℕ) → slice_get bs j ≡ Some b → to (back j) ≡ j) → sum ns ≡ sum bs
sum_same ns bs to back forth again round other_round =
    let le = one_way ns bs to back forth round in
    let ge = one_way bs ns back to again other_round in
    omega (arith, le, ge)
  where
    one_way : (xs ys : List ℕ) (f g : ℕ → ℕ) → ((i a : ℕ) → slice_get xs i ≡ Some a → slice_get ys (f i) ≡ Some a) → ((i a : ℕ) → slice_get xs i ≡ Some a → g (f i) ≡ i) → sum xs ≤ sum ys
    one_way xs ys f g leads returns =
        sum_within xs ys (λ i j. ((a : ℕ) × (slice_get xs i ≡ Some a)) × (f i ≡ j)) (λ i a at. inr (f i, ((a, at), refl), leads i a at))
        (λ i h j one two. sym (returns i one.0.0 one.0.1) ∙ (ap g (one.1 ∙ sym two.1) ∙ returns h two.0.0 two.0.1))
