-- What some declarations give, and what all give.
use Rattle.std.proofs.Common.{◌≡◌, ◌⊎◌, inl, inr, ℕ, zero, suc, Bool, true, false, List, [], ◌∷◌, Option, Some, None, slice_get, refl, sym, subst}
use Rattle.std.specs.Prelude.{if◌then◌else◌}
use Rattle.c_types.specs.declared.term.Form.TheVariants.{Fixed, Variadic, Unspecified}
use Rattle.c_types.specs.Trees.{Ctype, ArrayOf, FunctionFrom}
use Rattle.core_tree.specs.Rows.{Agree}
use Rattle.c_senses.specs.Tree.{Source}
use Rattle.c_senses.specs.Limits.{lacks_a_length, is_function_type}
use Rattle.c_senses.specs.Entities.{agree, fuller, together, all_together}
use Rattle.c_senses.specs.Right.{with_one}
use Rattle.c_senses.specs.Sense.{Sense}
use Rattle.declaration_laws.specs.joined_types.Joined.{Below, AllBelow}
use Rattle.declaration_laws.proofs.joined_types.Joining.{types_joined}
use Rattle.declaration_laws.specs.whole_types.Whole.{IsOneOf, AllOneOf, TypesWhole}

some_one : {X : Type 0} → {x y : X} → ◌≡◌ {A = Option X} (Some x) (Some y) → x ≡ y
some_one h = cc

-- what is given together is one of the types
fuller_is : (a b : Ctype) → (fuller a b ≡ a) ⊎ (fuller a b ≡ b)
fuller_is (FunctionFrom r ps Fixed) (FunctionFrom q qs Unspecified) = inl refl
fuller_is (FunctionFrom r ps Variadic) (FunctionFrom q qs Unspecified) = inl refl
fuller_is (ArrayOf a (Some n)) (ArrayOf b None) = inl refl
fuller_is a b = inr refl

together_is : (a b : Ctype) → (together a b ≡ a) ⊎ (together a b ≡ b)
together_is a b = by (agree a b)
  where
    by : (d : Bool) → ((if d then fuller a b else b) ≡ a) ⊎ ((if d then fuller a b else b) ≡ b)
    by true = fuller_is a b
    by false = inr refl

picked : (P : Ctype → Type 0) (a : Ctype) (ts : List Ctype) (t : Ctype) → P a → ((k : ℕ) (u : Ctype) → slice_get ts k ≡ Some u → P u) → all_together (Some a) ts ≡ Some t → P t
picked P a [] t own all e = subst P (some_one e) own
picked P a (x ∷ ts) t own all e =
    picked P (together a x) ts t (elim (together_is a x) [ inl same ↦ subst P (sym same) own | inr same ↦ subst P (sym same) (all 0 x refl) ]) (λ k u h. all (suc k) u h) e

one_at : (ts seen : List Ctype) → AllOneOf ts seen → (k : ℕ) (u : Ctype) → slice_get seen k ≡ Some u → IsOneOf ts u
one_at ts [] h k u e = cc
one_at ts (x ∷ seen) h zero u e = subst (IsOneOf ts) (some_one e) h.0
one_at ts (x ∷ seen) h (suc k) u e = one_at ts seen h.1 k u e

picked_one : (ts seen : List Ctype) (t : Ctype) → AllOneOf ts seen → all_together None seen ≡ Some t → IsOneOf ts t
picked_one ts [] t h e = cc
picked_one ts (x ∷ seen) t h e = picked (IsOneOf ts) x seen t h.0 (one_at ts seen h.1) e

below_at : (ts : List Ctype) (whole : Ctype) (k : ℕ) (u : Ctype) → AllBelow ts whole → slice_get ts k ≡ Some u → Below u whole
below_at [] whole k u h e = cc
below_at (x ∷ ts) whole zero u h e = subst (λ (y : Ctype). Below y whole) (some_one e) h.0
below_at (x ∷ ts) whole (suc k) u h e = below_at ts whole k u h.1 e

one_below : (ts : List Ctype) (whole t : Ctype) → AllBelow ts whole → IsOneOf ts t → Below t whole
one_below ts whole t h one = elim one.3 [
  | inl same ↦ subst (λ (x : Ctype). Below x whole) (sym same) (below_at ts whole one.0 one.1 h one.2)
  | inr sized ↦
      let under : Below (ArrayOf sized.0 (Some sized.1)) whole = subst (λ (x : Ctype). Below x whole) sized.3 (below_at ts whole one.0 one.1 h one.2) in
      subst (λ (x : Ctype). Below x whole) (sym sized.2) (subst (Below (ArrayOf sized.0 None)) under refl)
]

-- an open array then gets one element
below_self : (t : Ctype) → Below t t
below_self (ArrayOf of None) = refl
below_self (ArrayOf of (Some n)) = refl
below_self (FunctionFrom r ps Fixed) = refl
below_self (FunctionFrom r ps Variadic) = refl
below_self (FunctionFrom r ps Unspecified) = refl
below_self t = refl

open_agrees : (t b : Ctype) → Below t (ArrayOf b None) → Agree t (ArrayOf b (Some 1))
open_agrees (ArrayOf a None) b h = h
open_agrees (ArrayOf a (Some n)) b h = cc
open_agrees (FunctionFrom r ps Fixed) b h = cc
open_agrees (FunctionFrom r ps Variadic) b h = cc
open_agrees (FunctionFrom r ps Unspecified) b h = cc
open_agrees t b h = cc

with_one_agrees : (s : Source) (senses : List Sense) (t whole : Ctype) → Below t whole → Agree t (with_one s senses whole)
with_one_agrees s senses t (ArrayOf b None) h = open_agrees t b h
with_one_agrees s senses t (ArrayOf b (Some n)) h = types_joined.agrees t (ArrayOf b (Some n)) (ArrayOf b (Some n)) h (below_self (ArrayOf b (Some n)))
with_one_agrees s senses t whole h = types_joined.agrees t whole whole h (below_self whole)

below_complete : (t whole : Ctype) → Below t whole → lacks_a_length t ≡ false → is_function_type t ≡ false → t ≡ whole
below_complete (ArrayOf a None) whole h k l = cc
below_complete (ArrayOf a (Some n)) whole h k l = h
below_complete (FunctionFrom r ps f) whole h k l = cc
below_complete t whole h k l = h

pub types_whole : TypesWhole
types_whole = record {
  agrees = λ s senses ts seen whole t agree e one f. with_one_agrees s senses t whole (one_below ts whole t (types_joined.below ts whole agree e) (picked_one ts seen t one f));
  complete = λ ts whole t k agree e at length function. below_complete t whole (below_at ts whole k t (types_joined.below ts whole agree e) at) length function;
}
