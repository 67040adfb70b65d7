-- Options and searches of lists.
use Rattle.std.proofs.Common.{◌≡◌, ◌∙◌, ℕ, zero, suc, Bool, true, false, ◌||◌, List, [], ◌∷◌, map, Option, Some, None, refl, sym, ap, inl, inr}
use Rattle.std.specs.List.{slice_get, list_any}
use Rattle.std.specs.Option.{option_and_then}
use Rattle.std.proofs.lemmas.Bool.{cases_Bool, eqb-true, eq-eqb, false≢true}
use Rattle.obj_made.specs.Uses.{is_number}
use Rattle.twin_report_laws.proofs.outcome_laws.twin_words.Sums.{some_one, none_some}

-- what a chain of options ends in
pub and_then_some : {X Y : Type 0} (g : X → Option Y) (o : Option X) (y : Y) → option_and_then g o ≡ Some y → (x : X) × (o ≡ Some x) × (g x ≡ Some y)
and_then_some g None y e = absurd (none_some e)
and_then_some g (Some x) y e = (x, refl, e)

pub and_then_is : {X Y : Type 0} (g : X → Option Y) (o : Option X) (x : X) (y : Y) → o ≡ Some x → g x ≡ Some y → option_and_then g o ≡ Some y
and_then_is g o x y e f = ap (option_and_then g) e ∙ f

-- options that are there together, and are then the same
pub same_option : {X : Type 0} (a b : Option X) → ((x : X) → a ≡ Some x → b ≡ Some x) → ((x : X) → b ≡ Some x → a ≡ Some x) → b ≡ a
same_option None None f g = refl
same_option None (Some y) f g = sym (g y refl)
same_option (Some x) b f g = f x refl

-- tests that pass together
pub same_test : (a b : Bool) → (a ≡ true → b ≡ true) → (b ≡ true → a ≡ true) → b ≡ a
same_test true b f g = f refl
same_test false true f g = sym (g refl)
same_test false false f g = refl

pub any_at : {X : Type 0} (test : X → Bool) (xs : List X) (i : ℕ) (x : X) → slice_get xs i ≡ Some x → test x ≡ true → list_any test xs ≡ true
any_at test [] i x at h = absurd (none_some at)
any_at test (y ∷ xs) zero x at h = ap (λ b. b || list_any test xs) (ap test (some_one at) ∙ h)
any_at test (y ∷ xs) (suc i) x at h = by (test y) (any_at test xs i x at h)
  where
    by : (b : Bool) → list_any test xs ≡ true → (b || list_any test xs) ≡ true
    by true e = refl
    by false e = e

pub any_one : {X : Type 0} (test : X → Bool) (xs : List X) → list_any test xs ≡ true → (i : ℕ) × (x : X) × (slice_get xs i ≡ Some x) × (test x ≡ true)
any_one test [] h = absurd (false≢true h)
any_one test (x ∷ xs) h = elim (cases_Bool (test x)) [
  | inl its ↦ (0, x, refl, its)
  | inr isnt ↦
      let (i, y, at, is) = any_one test xs (sym (ap (λ b. b || list_any test xs) isnt) ∙ h) in
      (suc i, y, at, is)
]

pub number_is : (k : ℕ) (o : Option ℕ) → is_number k o ≡ true → o ≡ Some k
number_is k None h = absurd (false≢true h)
number_is k (Some n) h = ap Some (eqb-true n k h)

pub is_the_number : (k : ℕ) (o : Option ℕ) → o ≡ Some k → is_number k o ≡ true
is_the_number k o e = ap (is_number k) e ∙ eq-eqb k k refl

pub mapped_at : {X Y : Type 0} (f : X → Y) (xs : List X) (i : ℕ) (x : X) → slice_get xs i ≡ Some x → slice_get (map f xs) i ≡ Some (f x)
mapped_at f [] i x at = absurd (none_some at)
mapped_at f (y ∷ xs) zero x at = ap (λ z. Some (f z)) (some_one at)
mapped_at f (y ∷ xs) (suc i) x at = mapped_at f xs i x at

pub unmapped_at : {X Y : Type 0} (f : X → Y) (xs : List X) (i : ℕ) (y : Y) → slice_get (map f xs) i ≡ Some y → (x : X) × (slice_get xs i ≡ Some x) × (f x ≡ y)
unmapped_at f [] i y at = absurd (none_some at)
unmapped_at f (x ∷ xs) zero y at = (x, refl, some_one at)
unmapped_at f (x ∷ xs) (suc i) y at = unmapped_at f xs i y at
