-- Whether a type has a shape.
use Rattle.std.proofs.Common.{◌≡◌, ◌⊎◌, ℕ, List, [], ◌∷◌, refl, inl, inr}
use Rattle.std.proofs.lemmas.Bool.Decides.{eqb_tells}
use Rattle.c_types.specs.declared.term.Form.{Form}
use Rattle.c_types.specs.declared.term.Form.TheVariants.{Fixed, Variadic, Unspecified}
use Rattle.c_types.specs.Trees.{Ctype, Ctypes, NoTypes, MoreTypes, VoidType, BoolType, IntegerType, PointerTo, FunctionFrom}
use Rattle.type_rules.specs.Kinds.{IsInteger}
use Rattle.link_names.specs.Shape.{object_pointer, integer, function_pointer, nothing, further, gives, PointsToFunction, PointsToOther, IsLetter, FitsList, FitsResult, HasShape}

abbrev Decided : Type 0 → Type 0
Decided P = P ⊎ (P → ⊥)

both : {A B : Type 0} → Decided A → Decided B → Decided (A × B)
both (inl a) (inl b) = inl (a, b)
both (inr a) b = inr (λ h. a h.0)
both (inl a) (inr b) = inr (λ h. b h.1)

all_three : {A B C : Type 0} → Decided A → Decided B → Decided C → Decided (A × B × C)
all_three (inl a) (inl b) (inl c) = inl (a, b, c)
all_three (inr a) b c = inr (λ h. a h.0)
all_three (inl a) (inr b) c = inr (λ h. b h.1)
all_three (inl a) (inl b) (inr c) = inr (λ h. c h.2)

one_of : {A B : Type 0} → Decided A → Decided B → Decided (A ⊎ B)
one_of (inl a) b = inl (inl a)
one_of (inr a) (inl b) = inl (inr b)
one_of (inr a) (inr b) = inr (λ h. elim h [ inl x ↦ a x | inr y ↦ b y ])

same_nat : (a b : ℕ) → Decided (a ≡ b)
same_nat a b = (elim (eqb_tells a b) [ inl same ↦ inl same.1 | inr other ↦ inr other.1 ])

points_to_function : (t : Ctype) → Decided (PointsToFunction t)
points_to_function (PointerTo (FunctionFrom r ps f)) = inl tt
points_to_function (PointerTo t) = inr (λ h. h)
points_to_function t = inr (λ h. h)

points_to_other : (t : Ctype) → Decided (PointsToOther t)
points_to_other (PointerTo (FunctionFrom r ps f)) = inr (λ h. h tt)
points_to_other (PointerTo t) = inl (λ h. h)
points_to_other t = inr (λ h. h)

is_integer : (t : Ctype) → Decided (IsInteger t)
is_integer BoolType = inl tt
is_integer (IntegerType size rank signed) = inl tt
is_integer t = inr (λ h. h)

is_void : (t : Ctype) → Decided (t ≡ VoidType)
is_void VoidType = inl refl
is_void t = inr (λ h. cc)

is_letter : (letter : ℕ) (t : Ctype) → Decided (IsLetter letter t)
is_letter letter t =
    one_of (both (same_nat letter object_pointer) (points_to_other t))
    (one_of (both (same_nat letter integer) (is_integer t))
    (one_of (both (same_nat letter function_pointer) (points_to_function t)) (both (same_nat letter nothing) (is_void t))))

fits_list : (parameters : Ctypes) (form : Form) (result : Ctype) (shape : List ℕ) → Decided (FitsList parameters form result shape)
fits_list (MoreTypes t ts) form result (letter ∷ rest) = both (is_letter letter t) (fits_list ts form result rest)
fits_list NoTypes Fixed result (to ∷ letter ∷ []) = both (same_nat to gives) (is_letter letter result)
fits_list NoTypes Variadic result (dot ∷ to ∷ letter ∷ []) = all_three (same_nat dot further) (same_nat to gives) (is_letter letter result)
fits_list parameters form result shape = inr (λ h. h)

fits_result : (result : Ctype) (shape : List ℕ) → Decided (FitsResult result shape)
fits_result result [] = inr (λ h. h)
fits_result result (to ∷ letter ∷ []) = both (same_nat to gives) (is_letter letter result)
fits_result result (c ∷ rest) = fits_result result rest

has_shape : (t : Ctype) (shape : List ℕ) → Decided (HasShape t shape)
has_shape (FunctionFrom r ps Unspecified) shape = fits_result r shape
has_shape (FunctionFrom r ps Fixed) shape = fits_list ps Fixed r shape
has_shape (FunctionFrom r ps Variadic) shape = fits_list ps Variadic r shape
has_shape t (letter ∷ []) = is_letter letter t
has_shape t shape = inr (λ h. h)

-- what can't lack a shape has it
pub shape_stable : (t : Ctype) (shape : List ℕ) → ((HasShape t shape → ⊥) → ⊥) → HasShape t shape
shape_stable t shape h = elim (has_shape t shape) [ inl so ↦ so | inr not_so ↦ absurd (h not_so) ]
