-- The test tells types apart.
use Rattle.std.proofs.Common.{◌≡◌, ℕ, ◌↔◌, Bool, true, false, ◌&&◌, eqb, IsTrue, Option, Some, None, refl, sym, ◌∙◌, ap, rules}
use Rattle.c_types.specs.declared.term.Form.{Form}
use Rattle.c_types.specs.declared.term.Form.TheVariants.{Fixed, Variadic, Unspecified}
use Rattle.c_types.specs.Keys.{form_number}
use Rattle.c_types.specs.Trees.{Ctype, VoidType, BoolType, IntegerType, FloatingType, VaListType, PointerTo, ArrayOf, FunctionFrom, StructureOf, UnionOf, Ctypes, NoTypes, MoreTypes}
use Rattle.ref_elements.specs.Types.{same_bool, same_length, same_type, same_types}

both : (a b : Bool) → (a && b) ≡ true → (a ≡ true) × (b ≡ true)
both true true e = (refl, refl)
both true false e = cc
both false b e = cc

and_true : (a b : Bool) → a ≡ true → b ≡ true → (a && b) ≡ true
and_true a b p q = ap (λ (x : Bool). x && b) p ∙ q

eqb_refl : (n : ℕ) → eqb n n ≡ true
eqb_refl n = search rules

bool_refl : (b : Bool) → same_bool b b ≡ true
bool_refl true = refl
bool_refl false = refl

bool_true : (a b : Bool) → same_bool a b ≡ true → a ≡ b
bool_true true true e = refl
bool_true true false e = cc
bool_true false true e = cc
bool_true false false e = refl

length_refl : (n : Option ℕ) → same_length n n ≡ true
length_refl None = refl
length_refl (Some n) = eqb_refl n

length_true : (m n : Option ℕ) → same_length m n ≡ true → m ≡ n
length_true None None e = refl
length_true None (Some n) e = cc
length_true (Some m) None e = cc
length_true (Some m) (Some n) e = let s : m ≡ n = search rules in ap Some s

form_true : (f g : Form) → eqb (form_number f) (form_number g) ≡ true → f ≡ g
form_true Fixed Fixed e = refl
form_true Fixed Variadic e = cc
form_true Fixed Unspecified e = cc
form_true Variadic Fixed e = cc
form_true Variadic Variadic e = refl
form_true Variadic Unspecified e = cc
form_true Unspecified Fixed e = cc
form_true Unspecified Variadic e = cc
form_true Unspecified Unspecified e = refl

mutual
  pub type_refl : (t : Ctype) → same_type t t ≡ true
  type_refl VoidType = refl
  type_refl BoolType = refl
  type_refl (IntegerType size rank signed) = and_true (eqb size size && eqb rank rank) (same_bool signed signed) (and_true (eqb size size) (eqb rank rank) (eqb_refl size) (eqb_refl rank)) (bool_refl signed)
  type_refl FloatingType = refl
  type_refl VaListType = refl
  type_refl (PointerTo to) = type_refl to
  type_refl (ArrayOf of n) = and_true (same_type of of) (same_length n n) (type_refl of) (length_refl n)
  type_refl (FunctionFrom r ps f) = and_true (same_type r r && same_types ps ps) (eqb (form_number f) (form_number f)) (and_true (same_type r r) (same_types ps ps) (type_refl r) (types_refl ps)) (eqb_refl (form_number f))
  type_refl (StructureOf tag) = eqb_refl tag
  type_refl (UnionOf tag) = eqb_refl tag

  pub types_refl : (ts : Ctypes) → same_types ts ts ≡ true
  types_refl NoTypes = refl
  types_refl (MoreTypes t ts) = and_true (same_type t t) (same_types ts ts) (type_refl t) (types_refl ts)

eqb_true : (m n : ℕ) → eqb m n ≡ true → m ≡ n
eqb_true m n e = search rules

mutual
  pub type_true : (a b : Ctype) → same_type a b ≡ true → a ≡ b
  type_true VoidType VoidType e = refl
  type_true BoolType BoolType e = refl
  type_true (IntegerType size rank signed) (IntegerType s r g) e =
      let split = both (eqb size s && eqb rank r) (same_bool signed g) e in
      let front = both (eqb size s) (eqb rank r) split.0 in
      let a : size ≡ s = eqb_true size s front.0 in
      let b : rank ≡ r = eqb_true rank r front.1 in
      let c : signed ≡ g = bool_true signed g split.1 in
      cc
  type_true FloatingType FloatingType e = refl
  type_true VaListType VaListType e = refl
  type_true (PointerTo a) (PointerTo b) e = ap PointerTo (type_true a b e)
  type_true (ArrayOf a m) (ArrayOf b n) e =
      let split = both (same_type a b) (same_length m n) e in
      let s : a ≡ b = type_true a b split.0 in
      let l : m ≡ n = length_true m n split.1 in
      cc
  type_true (FunctionFrom r ps f) (FunctionFrom s qs g) e =
      let split = both (same_type r s && same_types ps qs) (eqb (form_number f) (form_number g)) e in
      let front = both (same_type r s) (same_types ps qs) split.0 in
      let a : r ≡ s = type_true r s front.0 in
      let b : ps ≡ qs = types_true ps qs front.1 in
      let c : f ≡ g = form_true f g split.1 in
      cc
  type_true (StructureOf a) (StructureOf b) e = ap StructureOf (eqb_true a b e)
  type_true (UnionOf a) (UnionOf b) e = ap UnionOf (eqb_true a b e)
  type_true a b e = cc

  pub types_true : (xs ys : Ctypes) → same_types xs ys ≡ true → xs ≡ ys
  types_true NoTypes NoTypes e = refl
  types_true (MoreTypes a ps) (MoreTypes b qs) e =
      let split = both (same_type a b) (same_types ps qs) e in
      let x : a ≡ b = type_true a b split.0 in
      let y : ps ≡ qs = types_true ps qs split.1 in
      cc
  types_true xs ys e = cc

told_false : (x : Bool) (a b : Ctype) → same_type a b ≡ x → (a ≡ b → IsTrue false) → false ≡ x
told_false true a b e never = let bad : false ≡ true = never (type_true a b e) in cc
told_false false a b e never = refl

pub told : (r : Bool) (a b : Ctype) → IsTrue r ↔ (a ≡ b) → r ≡ same_type a b
told true a b iff = let e : a ≡ b = iff.0 refl in sym (ap (same_type a) (sym e) ∙ type_refl a)
told false a b iff = told_false (same_type a b) a b refl iff.1
