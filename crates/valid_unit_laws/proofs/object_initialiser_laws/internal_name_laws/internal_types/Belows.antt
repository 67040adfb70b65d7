-- Types that are given together, one of them, and what is below the whole.
use Rattle.std.proofs.Common.{◌≡◌, ◌⊎◌, inl, inr, ℕ, zero, suc, Bool, true, false, List, [], ◌∷◌, Option, Some, None, slice_get, refl, sym, ap, subst}
use Rattle.std.specs.Prelude.{if◌then◌else◌}
use Rattle.c_types.specs.declared.term.Form.TheVariants.{Fixed, Variadic, Unspecified}
use Rattle.c_types.specs.Trees.{Ctype, ArrayOf, FunctionFrom}
use Rattle.c_senses.specs.Limits.{is_function_type}
use Rattle.c_senses.specs.Entities.{agree, fuller, together, all_together}
use Rattle.declaration_laws.specs.joined_types.Joined.{Below, AllBelow}
use Rattle.declaration_laws.specs.whole_types.Whole.{IsOneOf, AllOneOf}

some_one : {X : Type 0} → {x y : X} → ◌≡◌ {A = Option X} (Some x) (Some y) → x ≡ y
some_one h = cc

-- some types give one together
all_from : (a : Ctype) (ts : List Ctype) → (w : Ctype) × (all_together (Some a) ts ≡ Some w)
all_from a [] = (a, refl)
all_from a (t ∷ ts) = all_from (together a t) ts

pub some_whole : (ts : List Ctype) (k : ℕ) (t : Ctype) → slice_get ts k ≡ Some t → (w : Ctype) × (all_together None ts ≡ Some w)
some_whole [] k t e = cc
some_whole (x ∷ ts) k t e = all_from x ts

-- which is one of them
fuller_is : (a b : Ctype) → (fuller a b ≡ a) ⊎ (fuller a b ≡ b)
fuller_is (FunctionFrom r ps Fixed) (FunctionFrom q qs Unspecified) = inl refl
fuller_is (FunctionFrom r ps Variadic) (FunctionFrom q qs Unspecified) = inl refl
fuller_is (ArrayOf a (Some n)) (ArrayOf b None) = inl refl
fuller_is a b = inr refl

together_is : (a b : Ctype) → (together a b ≡ a) ⊎ (together a b ≡ b)
together_is a b = by (agree a b)
  where
    by : (d : Bool) → ((if d then fuller a b else b) ≡ a) ⊎ ((if d then fuller a b else b) ≡ b)
    by true = fuller_is a b
    by false = inr refl

picked : (P : Ctype → Type 0) (a : Ctype) (ts : List Ctype) (t : Ctype) → P a → ((k : ℕ) (u : Ctype) → slice_get ts k ≡ Some u → P u) → all_together (Some a) ts ≡ Some t → P t
picked P a [] t own all e = subst P (some_one e) own
picked P a (x ∷ ts) t own all e =
    picked P (together a x) ts t (elim (together_is a x) [ inl same ↦ subst P (sym same) own | inr same ↦ subst P (sym same) (all 0 x refl) ]) (λ k u h. all (suc k) u h) e

one_at : (ts seen : List Ctype) → AllOneOf ts seen → (k : ℕ) (u : Ctype) → slice_get seen k ≡ Some u → IsOneOf ts u
one_at ts [] h k u e = cc
one_at ts (x ∷ seen) h zero u e = subst (IsOneOf ts) (some_one e) h.0
one_at ts (x ∷ seen) h (suc k) u e = one_at ts seen h.1 k u e

pub picked_one : (ts seen : List Ctype) (t : Ctype) → AllOneOf ts seen → all_together None seen ≡ Some t → IsOneOf ts t
picked_one ts [] t h e = cc
picked_one ts (x ∷ seen) t h e = picked (IsOneOf ts) x seen t h.0 (one_at ts seen h.1) e

pub below_at : (ts : List Ctype) (whole : Ctype) (k : ℕ) (u : Ctype) → AllBelow ts whole → slice_get ts k ≡ Some u → Below u whole
below_at [] whole k u h e = cc
below_at (x ∷ ts) whole zero u h e = subst (λ (y : Ctype). Below y whole) (some_one e) h.0
below_at (x ∷ ts) whole (suc k) u h e = below_at ts whole k u h.1 e

pub one_below : (ts : List Ctype) (whole t : Ctype) → AllBelow ts whole → IsOneOf ts t → Below t whole
one_below ts whole t h one = elim one.3 [
  | inl same ↦ subst (λ (x : Ctype). Below x whole) (sym same) (below_at ts whole one.0 one.1 h one.2)
  | inr sized ↦
      let under : Below (ArrayOf sized.0 (Some sized.1)) whole = subst (λ (x : Ctype). Below x whole) sized.3 (below_at ts whole one.0 one.1 h one.2) in
      subst (λ (x : Ctype). Below x whole) (sym sized.2) (subst (Below (ArrayOf sized.0 None)) under refl)
]

-- a function's type is below one of a function alone
pub function_below : (t whole : Ctype) → is_function_type t ≡ true → Below t whole → is_function_type whole ≡ true
function_below (FunctionFrom r ps Unspecified) (FunctionFrom q qs f) is h = refl
function_below (FunctionFrom r ps Fixed) whole is h = ap is_function_type (sym h)
function_below (FunctionFrom r ps Variadic) whole is h = ap is_function_type (sym h)
function_below (FunctionFrom r ps Unspecified) whole is h = cc
function_below t whole is h = cc
