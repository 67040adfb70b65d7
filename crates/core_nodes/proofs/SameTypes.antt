-- The test of two types.
use Rattle.std.proofs.Common.{◌≡◌, ℕ, ◌&&◌, ◌↔◌, Bool, true, false, Option, Some, None, IsTrue, refl, sym, ap, ◌∙◌}
use Rattle.std.proofs.lemmas.Bool.{eqb-true, eq-eqb, false≢true}
use Rattle.c_types.specs.declared.term.Form.{Form}
use Rattle.c_types.specs.declared.term.Form.TheVariants.{Fixed, Variadic, Unspecified}
use Rattle.c_types.specs.Trees.{Ctype, Ctypes, NoTypes, MoreTypes, VoidType, BoolType, IntegerType, FloatingType, VaListType, PointerTo, ArrayOf, FunctionFrom, StructureOf, UnionOf}
use Rattle.c_senses.specs.World.{same_form, same_length, same_sign, same_type, same_types}

and_left : (a b : Bool) → (a && b) ≡ true → a ≡ true
and_left true b h = refl
and_left false b h = absurd (false≢true h)

and_right : (a b : Bool) → (a && b) ≡ true → b ≡ true
and_right true b h = h
and_right false b h = absurd (false≢true h)

and_both : (a b : Bool) → a ≡ true → b ≡ true → (a && b) ≡ true
and_both true b e h = h
and_both false b e h = e

form_sound : (f g : Form) → same_form f g ≡ true → f ≡ g
form_sound Fixed Fixed h = refl
form_sound Variadic Variadic h = refl
form_sound Unspecified Unspecified h = refl
form_sound f g h = cc

form_same : (f : Form) → same_form f f ≡ true
form_same Fixed = refl
form_same Variadic = refl
form_same Unspecified = refl

length_sound : (m n : Option ℕ) → same_length m n ≡ true → m ≡ n
length_sound None None h = refl
length_sound (Some a) (Some b) h = ap Some (eqb-true a b h)
length_sound m n h = cc

length_same : (m : Option ℕ) → same_length m m ≡ true
length_same None = refl
length_same (Some a) = eq-eqb a a refl

sign_sound : (m n : Bool) → same_sign m n ≡ true → m ≡ n
sign_sound true true h = refl
sign_sound false false h = refl
sign_sound m n h = cc

sign_same : (m : Bool) → same_sign m m ≡ true
sign_same true = refl
sign_same false = refl

mutual
  pub type_sound : (a b : Ctype) → same_type a b ≡ true → a ≡ b
  type_sound VoidType VoidType h = refl
  type_sound BoolType BoolType h = refl
  type_sound (IntegerType size rank signed) (IntegerType size' rank' signed') h =
      let one = eqb-true size size' (and_left _ _ h) in
      let two = eqb-true rank rank' (and_left _ _ (and_right _ _ h)) in
      let three = sign_sound signed signed' (and_right _ _ (and_right _ _ h)) in
      cc
  type_sound FloatingType FloatingType h = refl
  type_sound VaListType VaListType h = refl
  type_sound (PointerTo a) (PointerTo b) h = ap PointerTo (type_sound a b h)
  type_sound (ArrayOf a m) (ArrayOf b n) h =
      let one = length_sound m n (and_left _ _ h) in let two = type_sound a b (and_right _ _ h) in cc
  type_sound (FunctionFrom r ps f) (FunctionFrom s qs g) h =
      let one = form_sound f g (and_left _ _ h) in
      let two = type_sound r s (and_left _ _ (and_right _ _ h)) in
      let three = types_sound ps qs (and_right _ _ (and_right _ _ h)) in
      cc
  type_sound (StructureOf a) (StructureOf b) h = ap StructureOf (eqb-true a b h)
  type_sound (UnionOf a) (UnionOf b) h = ap UnionOf (eqb-true a b h)
  type_sound a b h = cc

  pub types_sound : (a b : Ctypes) → same_types a b ≡ true → a ≡ b
  types_sound NoTypes NoTypes h = refl
  types_sound (MoreTypes a as') (MoreTypes b bs) h =
      let one = type_sound a b (and_left _ _ h) in let two = types_sound as' bs (and_right _ _ h) in cc
  types_sound a b h = cc

mutual
  pub type_same : (a : Ctype) → same_type a a ≡ true
  type_same VoidType = refl
  type_same BoolType = refl
  type_same (IntegerType size rank signed) = and_both _ _ (eq-eqb size size refl) (and_both _ _ (eq-eqb rank rank refl) (sign_same signed))
  type_same FloatingType = refl
  type_same VaListType = refl
  type_same (PointerTo a) = type_same a
  type_same (ArrayOf a m) = and_both _ _ (length_same m) (type_same a)
  type_same (FunctionFrom r ps f) = and_both _ _ (form_same f) (and_both _ _ (type_same r) (types_same ps))
  type_same (StructureOf a) = eq-eqb a a refl
  type_same (UnionOf a) = eq-eqb a a refl

  pub types_same : (a : Ctypes) → same_types a a ≡ true
  types_same NoTypes = refl
  types_same (MoreTypes a rest) = and_both _ _ (type_same a) (types_same rest)

-- a test that is true exactly where the types are one
pub same_by : (r : Bool) (a b : Ctype) → IsTrue r ↔ (a ≡ b) → r ≡ same_type a b
same_by r a b h = by_answer r (same_type a b) refl h
  where
    by_answer : (r s : Bool) → s ≡ same_type a b → IsTrue r ↔ (a ≡ b) → r ≡ s
    by_answer true true e h = refl
    by_answer false false e h = refl
    by_answer true false e h = let one : a ≡ b = h.0 refl in sym (e ∙ (ap (same_type a) (sym one) ∙ type_same a))
    by_answer false true e h = h.1 (type_sound a b (sym e))
