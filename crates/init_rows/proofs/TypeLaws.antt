-- Limits of the types that objects are declared with.
use Rattle.std.proofs.Common.{◌≡◌, ℕ, refl, ap, sym, ◌∙◌, subst, Bool, true, false, ◌&&◌, is_some, is_none, Option, Some, None, List, All}
use Rattle.c_types.specs.Trees.{Ctype, VoidType, BoolType, IntegerType, FloatingType, VaListType, PointerTo, ArrayOf, FunctionFrom, StructureOf, UnionOf}
use Rattle.c_types.specs.Layout.{Extent}
use Rattle.c_types.specs.Table.{align_within, size_below, nodes_within}
use Rattle.c_senses.specs.World.{World, extent}
use Rattle.c_senses.specs.Sense.{Sense, Nothing, IsCore, IsType, IsSpecified, IsDeclarator, IsDerivation, IsParameter, IsMembers, IsValue, IsRun, IsInitial}
use Rattle.c_senses.specs.Sense as sense
use Rattle.c_senses.specs.Declarators.{derived_once}
use Rattle.c_senses.specs.Limits.{is_small, within_limits}
use Rattle.c_senses.specs.Entities.{with_length}
use Rattle.c_declarators.specs.Limited.{small_once, parameters_limited, IsLimited}
use Rattle.c_results.specs.Parts.{specified_in, declarator_in, type_in}

some_is : {A : Type 0} (x y : A) → ◌≡◌ {A = Option A} (Some x) (Some y) → x ≡ y
some_is x y e = cc

-- what a type has of alignment, size and nodes
pub small_none : (e : Option Extent) → is_none (align_within e) ≡ true → is_small e ≡ true
small_none None h = refl
small_none (Some e) h = cc

pub small_some : (e : Option Extent) → is_none (align_within e) ≡ false → (is_some (size_below e) && is_some (nodes_within e)) ≡ is_small e
small_some None h = cc
small_some (Some e) h = refl

and_true : (b : Bool) → (b && true) ≡ b
and_true true = refl
and_true false = refl

and_turned : (a b : Bool) → (a && b) ≡ (b && a)
and_turned true true = refl
and_turned true false = refl
and_turned false true = refl
and_turned false false = refl

module _ (w : World) where
  -- the limits of a type with one derivation more
  once_is : (d : sense.Derivation) (t : Ctype) → parameters_limited w d ≡ true → within_limits w (derived_once d t) ≡ (within_limits w t && small_once w d t)
  once_is sense.Pointing t p = sym (and_true (within_limits w t))
  once_is (sense.Elements n) t p = and_turned (is_small (extent w (ArrayOf t n))) (within_limits w t)
  once_is (sense.Returning ps form) t p = ap (λ (b : Bool). within_limits w t && b) p

  pub once_more : (d : sense.Derivation) (t t' : Ctype) (before small after : Bool) → parameters_limited w d ≡ true → t' ≡ derived_once d t → before ≡ within_limits w t → small ≡ small_once w d t → after ≡ (before && small) → after ≡ within_limits w t'
  once_more d t t' before small after p is e f g =
      g ∙ (ap (λ (b : Bool). b && small) e ∙ (ap (λ (b : Bool). within_limits w t && b) f ∙ (sym (once_is d t p) ∙ ap (within_limits w) (sym is))))

  -- a type within the limits is small itself
  small_of : (t : Ctype) → within_limits w t ≡ true → is_small (extent w t) ≡ true
  small_of (ArrayOf of n) h = left (is_small (extent w (ArrayOf of n))) (within_limits w of) h
    where
      left : (a b : Bool) → (a && b) ≡ true → a ≡ true
      left true b e = refl
      left false b e = cc
  small_of (PointerTo to) h = refl
  small_of (FunctionFrom r ps f) h = refl
  small_of VoidType h = h
  small_of BoolType h = h
  small_of (IntegerType size rank signed) h = h
  small_of FloatingType h = h
  small_of VaListType h = h
  small_of (StructureOf tag) h = h
  small_of (UnionOf tag) h = h

  same_limits : (t : Ctype) → within_limits w t ≡ (within_limits w t && is_small (extent w t))
  same_limits t = by (within_limits w t) refl
    where
      by : (b : Bool) → within_limits w t ≡ b → b ≡ (b && is_small (extent w t))
      by true e = sym (small_of t e)
      by false e = refl

  length_none : (t : Ctype) → within_limits w (with_length None t) ≡ (within_limits w t && is_small (extent w (with_length None t)))
  length_none t = same_limits t

  -- a type with the length that an initialiser gives it
  pub length_limits : (n : Option ℕ) (t : Ctype) → within_limits w (with_length n t) ≡ (within_limits w t && is_small (extent w (with_length n t)))
  length_limits None t = length_none t
  length_limits (Some n) (ArrayOf of None) = and_turned (is_small (extent w (ArrayOf of (Some n)))) (within_limits w of)
  length_limits (Some n) (ArrayOf of (Some m)) = same_limits (ArrayOf of (Some m))
  length_limits (Some n) VoidType = same_limits VoidType
  length_limits (Some n) BoolType = same_limits BoolType
  length_limits (Some n) (IntegerType size rank signed) = same_limits (IntegerType size rank signed)
  length_limits (Some n) FloatingType = same_limits FloatingType
  length_limits (Some n) VaListType = same_limits VaListType
  length_limits (Some n) (PointerTo to) = same_limits (PointerTo to)
  length_limits (Some n) (FunctionFrom r ps f) = same_limits (FunctionFrom r ps f)
  length_limits (Some n) (StructureOf tag) = same_limits (StructureOf tag)
  length_limits (Some n) (UnionOf tag) = same_limits (UnionOf tag)

  pub limits_are : (t : Ctype) (n : Option ℕ) (limited small result : Bool) → limited ≡ within_limits w t → small ≡ is_small (extent w (with_length n t)) → result ≡ (limited && small) → result ≡ within_limits w (with_length n t)
  limits_are t n limited small result e f g =
      g ∙ (ap (λ (b : Bool). b && small) e ∙ (ap (λ (b : Bool). within_limits w t && b) f ∙ sym (length_limits n t)))

  -- the limits of senses
  pub base_limited : (x : Sense) (t : Ctype) → IsLimited w x → specified_in x ≡ Some t → within_limits w t ≡ true
  base_limited (IsSpecified y) t h e = let is : y.type ≡ t = cc in sym (ap (within_limits w) is) ∙ h
  base_limited x t h e = cc

  pub type_limited : (x : Sense) (t : Ctype) → IsLimited w x → type_in x ≡ Some t → within_limits w t ≡ true
  type_limited (IsType y) t h e = let is : y ≡ t = cc in sym (ap (within_limits w) is) ∙ h
  type_limited x t h e = cc

  pub steps_limited : (x : Sense) (name : Option ℕ) (ds : List sense.Derivation) → IsLimited w x → declarator_in x ≡ Some (name, ds) → All (λ d. parameters_limited w d ≡ true) ds
  steps_limited (IsDeclarator n es) name ds h e =
      let is : es ≡ ds = ap (λ (p : Option ℕ × List sense.Derivation). p.1) (some_is (n, es) (name, ds) e) in
      subst (λ (xs : List sense.Derivation). All (λ d. parameters_limited w d ≡ true) xs) is h
  steps_limited x name ds h e = cc
