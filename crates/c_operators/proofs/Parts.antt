-- What is built of the operators is part of the whole.
use Rattle.std.proofs.Common.{◌≡◌, ℕ, ℤ, pos, Bool, true, false, ◌||◌, cond, Option, Some, None, inl, inr, List, refl, ap, ◌∙◌, subst}
use Rattle.std.specs.Ordering.{int_eq}
use Rattle.pta_base.specs.declared.kind.Kind.TheVariants.{Operand}
use Rattle.pta_base.specs.declared.place.Place.{Place}
use Rattle.core_tree.specs.declared.node.NodeKind.{NodeKind}
use Rattle.core_tree.specs.declared.node.NodeKind.TheVariants.{NullValue}
use Rattle.core_tree.specs.declared.node.Op.{Op}
use Rattle.c_types.specs.Trees.{Ctype}
use Rattle.c_consts.specs.Core.{Core, Of, ctype_of}
use Rattle.c_consts.specs.Answer.{Form, Written, Operated, Chosen, Converted, Formless, Found, form_of, answer_of, answers}
use Rattle.c_senses.specs.Given.{Given, Fits, ◌>>=◌, given_if}
use Rattle.c_senses.specs.World.{World, same_type}
use Rattle.c_senses.specs.Nulls.{is_null, is_null_pointer, is_zero_found}
use Rattle.c_senses.specs.Conversions.{OperandSort, Whole, Address, Aggregate, Other, operand_of, null_value}
use Rattle.c_senses.specs.Operators.{Between, Numeric, Shifting, Adding, Subtracting, Ordering, Equating, BothTrue, EitherTrue, Following, NoOperator, joined, null_left, null_right, pointers_joined, equality_row, compared, between}
use Rattle.c_operators.specs.Joined.{null_by, null_known, given_known, pair, left_joined, right_joined, built_joined, built_null_right, built_null_left, built_pointers_joined}
use Rattle.c_operators.specs.Between.{PartOf, built_equality, built_between}

-- a number is no null value
number_apart : (kind : NodeKind) (t : Ctype) (n : ℤ) → form_of kind t ≡ Written n → is_null_pointer kind t ≡ false
number_apart NullValue t n e = cc
number_apart kind t n e = refl

found_by : (f : Form) (p n : Bool) (t : Ctype) (operands : List (Bool → Found)) → ((k : ℤ) → f ≡ Written k → p ≡ false) → null_by f p ≡ Some n → (p || is_zero_found (answer_of f t true operands)) ≡ n
found_by (Written k) p n t operands h e =
    let off : p ≡ false = h k refl in
    let same : int_eq k (pos 0) ≡ n = cc in
    ap (λ (b : Bool). b || int_eq k (pos 0)) off ∙ same
found_by Formless true n t operands h e = cc
found_by Formless false n t operands h e = cc
found_by (Operated op) p n t operands h e = cc
found_by Chosen p n t operands h e = cc
found_by Converted p n t operands h e = cc

-- what is known of a null constant is so
pub known_is : (c : Core) (n : Bool) → null_known c ≡ Some n → is_null c ≡ n
known_is (Of kind place t under) n e = found_by (form_of kind t) (is_null_pointer kind t) n t (answers under) (number_apart kind t) e

pub known_part : {A : Type 0} (o : Option Bool) (null : Bool) (at : ℕ) (f : Bool → Given A) (g : Given A) → ((n : Bool) → o ≡ Some n → null ≡ n) → PartOf (f null) g → PartOf (given_known o at f) g
known_part None null at f g h p = inr (at, refl)
known_part (Some n) null at f g h p = subst (λ (b : Bool). PartOf (f b) g) (h n refl) p

pub cond_part : {A : Type 0} (t : Bool) (d e e' : Given A) → PartOf e e' → PartOf (cond t d e) (cond t d e')
cond_part true d e e' p = inl refl
cond_part false d e e' p = p

pub bind_part : {A B : Type 0} (g h : Given A) (f : A → Given B) → PartOf g h → PartOf (g >>= f) (h >>= f)
bind_part g h f (inl e) = inl (ap (λ x. x >>= f) e)
bind_part g h f (inr p) = inr (p.0, ap (λ x. x >>= f) p.1)

joined_part : (at : ℕ) (a b : Core) (x y : Ctype) → PartOf (built_joined at a b x y) (joined at a b x y)
joined_part at a b x y =
    cond_part (same_type x y) (Fits (pair a b)) (given_known (null_known b) at (right_joined at a b x y)) _
    (known_part (null_known b) (is_null b) at (right_joined at a b x y) _ (known_is b)
    (cond_part (is_null b) (Fits (pair a (null_value (ctype_of a) b))) (given_known (null_known a) at (left_joined at a b x y)) _
    (known_part (null_known a) (is_null a) at (left_joined at a b x y) (left_joined at a b x y (is_null a)) (known_is a) (inl refl))))

right_part : (at : ℕ) (a b : Core) → PartOf (built_null_right at a b) (null_right at a b)
right_part at a b =
    known_part (null_known b) (is_null b) at (λ null. given_if null Operand at (Fits (pair a (null_value (ctype_of a) b)))) (null_right at a b) (known_is b) (inl refl)

left_part : (at : ℕ) (a b : Core) → PartOf (built_null_left at a b) (null_left at a b)
left_part at a b =
    known_part (null_known a) (is_null a) at (λ null. given_if null Operand at (Fits (pair (null_value (ctype_of b) a) b))) (null_left at a b) (known_is a) (inl refl)

pub pointers_part : (at : ℕ) (a b : Core) (x y : OperandSort) → PartOf (built_pointers_joined at a b x y) (pointers_joined at a b x y)
pointers_part at a b (Address x) (Address y) = joined_part at a b x y
pointers_part at a b (Address x) Whole = right_part at a b
pointers_part at a b (Address x) (Aggregate t) = inl refl
pointers_part at a b (Address x) Other = inl refl
pointers_part at a b Whole (Address y) = left_part at a b
pointers_part at a b Whole Whole = inl refl
pointers_part at a b Whole (Aggregate t) = inl refl
pointers_part at a b Whole Other = inl refl
pointers_part at a b (Aggregate t) y = inl refl
pointers_part at a b Other y = inl refl

equality_part : (w : World) (op : Op) (place : Place) (at : ℕ) (a b : Core) (x y : OperandSort) → PartOf (built_equality w op place at a b x y) (equality_row w op place at a b x y)
equality_part w op place at a b Whole Whole = inl refl
equality_part w op place at a b Whole (Address y) = bind_part _ _ (λ both. Fits (compared op place both.left both.right)) (pointers_part at a b Whole (Address y))
equality_part w op place at a b Whole (Aggregate t) = inl refl
equality_part w op place at a b Whole Other = inl refl
equality_part w op place at a b (Address x) y = bind_part _ _ (λ both. Fits (compared op place both.left both.right)) (pointers_part at a b (Address x) y)
equality_part w op place at a b (Aggregate t) y = inl refl
equality_part w op place at a b Other y = inl refl

-- an operator between two values
pub between_part : (w : World) (op : Between) (place : Place) (at : ℕ) (a b : Core) → PartOf (built_between w op place at a b) (between w op place at a b)
between_part w (Equating op) place at a b = equality_part w op place at a b (operand_of (ctype_of a)) (operand_of (ctype_of b))
between_part w (Numeric op) place at a b = inl refl
between_part w (Shifting op) place at a b = inl refl
between_part w Adding place at a b = inl refl
between_part w Subtracting place at a b = inl refl
between_part w (Ordering op) place at a b = inl refl
between_part w BothTrue place at a b = inl refl
between_part w EitherTrue place at a b = inl refl
between_part w Following place at a b = inl refl
between_part w NoOperator place at a b = inl refl
