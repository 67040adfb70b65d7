-- Whether types agree.
use Rattle.std.proofs.Common.{◌≡◌, ◌⊎◌, ℕ, Bool, true, false, Option, Some, None, refl, ap, ◌∙◌, inl, inr}
use Rattle.c_types.specs.declared.term.Form.{Form}
use Rattle.c_types.specs.declared.term.Form.TheVariants.{Fixed, Variadic, Unspecified}
use Rattle.c_types.specs.Trees.{Ctype, Ctypes, NoTypes, MoreTypes, VoidType, BoolType, IntegerType, FloatingType, VaListType, PointerTo, ArrayOf, FunctionFrom, StructureOf, UnionOf}
use Rattle.std.proofs.lemmas.Bool.Decides.{eqb_tells}
use Rattle.type_rules.specs.Conversions.{Agree}

abbrev Decided : Type 0 → Type 0
Decided P = P ⊎ (P → ⊥)

same_nat : (a b : ℕ) → Decided (a ≡ b)
same_nat a b = (elim (eqb_tells a b) [ inl same ↦ inl same.1 | inr other ↦ inr other.1 ])

same_bool : (a b : Bool) → Decided (a ≡ b)
same_bool true true = inl refl
same_bool false false = inl refl
same_bool true false = inr (λ e. cc)
same_bool false true = inr (λ e. cc)

same_length : (a b : Option ℕ) → Decided (a ≡ b)
same_length None None = inl refl
same_length None (Some n) = inr (λ e. cc)
same_length (Some n) None = inr (λ e. cc)
same_length (Some n) (Some m) = elim (same_nat n m) [ inl e ↦ inl (ap (λ (k : ℕ). Some k) e) | inr not_so ↦ inr (λ e. not_so (let q : n ≡ m = cc in q)) ]

same_form : (a b : Form) → Decided (a ≡ b)
same_form Fixed Fixed = inl refl
same_form Fixed Variadic = inr (λ e. cc)
same_form Fixed Unspecified = inr (λ e. cc)
same_form Variadic Fixed = inr (λ e. cc)
same_form Variadic Variadic = inl refl
same_form Variadic Unspecified = inr (λ e. cc)
same_form Unspecified Fixed = inr (λ e. cc)
same_form Unspecified Variadic = inr (λ e. cc)
same_form Unspecified Unspecified = inl refl

mutual
  pub same_type : (s t : Ctype) → Decided (s ≡ t)
  same_type VoidType VoidType = inl refl
  same_type BoolType BoolType = inl refl
  same_type (IntegerType a0 a1 a2) (IntegerType b0 b1 b2) = elim (same_nat a0 b0) [ inl e0 ↦ elim (same_nat a1 b1) [ inl e1 ↦ elim (same_bool a2 b2) [ inl e2 ↦ inl (ap (λ (z : ℕ). IntegerType z a1 a2) e0 ∙ (ap (λ (z : ℕ). IntegerType b0 z a2) e1 ∙ (ap (λ (z : Bool). IntegerType b0 b1 z) e2))) | inr no2 ↦ inr (λ e. no2 (let q : a2 ≡ b2 = cc in q)) ] | inr no1 ↦ inr (λ e. no1 (let q : a1 ≡ b1 = cc in q)) ] | inr no0 ↦ inr (λ e. no0 (let q : a0 ≡ b0 = cc in q)) ]
  same_type FloatingType FloatingType = inl refl
  same_type VaListType VaListType = inl refl
  same_type (PointerTo a0) (PointerTo b0) = elim (same_type a0 b0) [ inl e0 ↦ inl (ap (λ (z : Ctype). PointerTo z) e0) | inr no0 ↦ inr (λ e. no0 (let q : a0 ≡ b0 = cc in q)) ]
  same_type (ArrayOf a0 a1) (ArrayOf b0 b1) = elim (same_type a0 b0) [ inl e0 ↦ elim (same_length a1 b1) [ inl e1 ↦ inl (ap (λ (z : Ctype). ArrayOf z a1) e0 ∙ (ap (λ (z : Option ℕ). ArrayOf b0 z) e1)) | inr no1 ↦ inr (λ e. no1 (let q : a1 ≡ b1 = cc in q)) ] | inr no0 ↦ inr (λ e. no0 (let q : a0 ≡ b0 = cc in q)) ]
  same_type (FunctionFrom a0 a1 a2) (FunctionFrom b0 b1 b2) = elim (same_type a0 b0) [ inl e0 ↦ elim (same_types a1 b1) [ inl e1 ↦ elim (same_form a2 b2) [ inl e2 ↦ inl (ap (λ (z : Ctype). FunctionFrom z a1 a2) e0 ∙ (ap (λ (z : Ctypes). FunctionFrom b0 z a2) e1 ∙ (ap (λ (z : Form). FunctionFrom b0 b1 z) e2))) | inr no2 ↦ inr (λ e. no2 (let q : a2 ≡ b2 = cc in q)) ] | inr no1 ↦ inr (λ e. no1 (let q : a1 ≡ b1 = cc in q)) ] | inr no0 ↦ inr (λ e. no0 (let q : a0 ≡ b0 = cc in q)) ]
  same_type (StructureOf a0) (StructureOf b0) = elim (same_nat a0 b0) [ inl e0 ↦ inl (ap (λ (z : ℕ). StructureOf z) e0) | inr no0 ↦ inr (λ e. no0 (let q : a0 ≡ b0 = cc in q)) ]
  same_type (UnionOf a0) (UnionOf b0) = elim (same_nat a0 b0) [ inl e0 ↦ inl (ap (λ (z : ℕ). UnionOf z) e0) | inr no0 ↦ inr (λ e. no0 (let q : a0 ≡ b0 = cc in q)) ]
  same_type s t = inr (λ e. cc)

  same_types : (s t : Ctypes) → Decided (s ≡ t)
  same_types NoTypes NoTypes = inl refl
  same_types NoTypes (MoreTypes b bs) = inr (λ e. cc)
  same_types (MoreTypes a rest) NoTypes = inr (λ e. cc)
  same_types (MoreTypes a rest) (MoreTypes b more) = elim (same_type a b) [ inl e ↦ elim (same_types rest more) [ inl f ↦ inl (ap (λ (z : Ctype). MoreTypes z rest) e ∙ ap (λ (z : Ctypes). MoreTypes b z) f) | inr not_so ↦ inr (λ g. not_so (let q : rest ≡ more = cc in q)) ] | inr not_so ↦ inr (λ g. not_so (let q : a ≡ b = cc in q)) ]

pub agree : (s t : Ctype) → Decided (Agree s t)
agree (FunctionFrom r ps Fixed) (FunctionFrom q qs Fixed) = same_type (FunctionFrom r ps Fixed) (FunctionFrom q qs Fixed)
agree (FunctionFrom r ps Fixed) (FunctionFrom q qs Variadic) = same_type (FunctionFrom r ps Fixed) (FunctionFrom q qs Variadic)
agree (FunctionFrom r ps Fixed) (FunctionFrom q qs Unspecified) = same_type r q
agree (FunctionFrom r ps Variadic) (FunctionFrom q qs Fixed) = same_type (FunctionFrom r ps Variadic) (FunctionFrom q qs Fixed)
agree (FunctionFrom r ps Variadic) (FunctionFrom q qs Variadic) = same_type (FunctionFrom r ps Variadic) (FunctionFrom q qs Variadic)
agree (FunctionFrom r ps Variadic) (FunctionFrom q qs Unspecified) = same_type r q
agree (FunctionFrom r ps Unspecified) (FunctionFrom q qs Fixed) = same_type r q
agree (FunctionFrom r ps Unspecified) (FunctionFrom q qs Variadic) = same_type r q
agree (FunctionFrom r ps Unspecified) (FunctionFrom q qs Unspecified) = same_type r q
agree (ArrayOf a None) (ArrayOf b n) = same_type a b
agree (ArrayOf a (Some m)) (ArrayOf b None) = same_type a b
agree (ArrayOf a (Some m)) (ArrayOf b (Some n)) = same_type (ArrayOf a (Some m)) (ArrayOf b (Some n))
agree s t = same_type s t

-- what can't fail to agree agrees
pub agree_stable : (s t : Ctype) → ((Agree s t → ⊥) → ⊥) → Agree s t
agree_stable s t h = elim (agree s t) [ inl so ↦ so | inr not_so ↦ absurd (h not_so) ]
