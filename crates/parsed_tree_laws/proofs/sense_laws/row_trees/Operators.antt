-- Operators between values keep the rows of constants.
use Rattle.std.proofs.Common.{◌≡◌, ◌≢◌, ℕ, ◌==◌, Bool, true, false, ◌&&◌, refl, sym, ap, ◌∙◌, subst, inl, inr}
use Rattle.std.specs.Prelude.{⊤, if◌then◌else◌}
use Rattle.std.specs.Int.Signed.{le_z_yes, lt_z_yes}
use Rattle.c_grammar.specs.Words.{sign_star, sign_slash, sign_percent, sign_plus, sign_minus, sign_shift_left, sign_shift_right, sign_less, sign_greater, sign_less_equal, sign_greater_equal, sign_equal, sign_not_equal, sign_ampersand, sign_caret, sign_bar, sign_both, sign_either_or, sign_comma}
use Rattle.pta_base.specs.declared.kind.Kind.TheVariants.{Operand}
use Rattle.pta_base.specs.declared.place.Place.{Place}
use Rattle.c_types.specs.Trees.{Ctype, VoidType, IntegerType, PointerTo, FunctionFrom}
use Rattle.c_conversions.specs.passed.core_tree.declared.node.Op.{Op}
use Rattle.c_conversions.specs.passed.core_tree.declared.node.Op.TheVariants.{Multiply, Divide, Remainder, Plus, Minus, ShiftLeft, ShiftRight, Less, Greater, LessEqual, GreaterEqual, Equal, NotEqual, And, Xor, Or, Not}
use Rattle.c_conversions.specs.passed.core_tree.declared.node.NodeKind.TheVariants.{PointerAdd, Choose, Arith}
use Rattle.c_conversions.specs.passed.core_tree.Typed.{IsInteger, IsScalar, IsPromoted, IsPointer}
use Rattle.c_conversions.specs.passed.core_tree.Rows.{int, long, Binary, Unary, Compares, Computes, Shifts, Converts}
use Rattle.c_senses.specs.passed.c_consts.Core.{Core, ctype_of, over, over_two, over_three}
use Rattle.c_senses.specs.Given.{Fits, Refuses, ◌>>=◌}
use Rattle.c_senses.specs.World.{World, has_size, same_type}
use Rattle.c_senses.specs.Nulls.{is_null}
use Rattle.c_senses.specs.Conversions.{OperandSort, Whole, Address, operand_of, is_scalar, promotion, converted, null_value}
use Rattle.c_senses.specs.Operators.{common_of, in_common, arithmetic, comparison, numeric_row, shifted, shift_row, moved, plus_row, difference, minus_row, compared, order_row, is_void, is_object, Both, joined, pointers_joined, equality_row, number_core, truth, both_core, either_core, both_row, either_row, sequence, Between, Numeric, Shifting, Adding, Subtracting, Ordering, Equating, BothTrue, EitherTrue, Following, NoOperator, between, other_operator, operator, promoted_row, not_row, chosen, branches, choice_row}
use Rattle.c_conversions.proofs.passed.core_nodes.SameTypes.{type_sound}
use Rattle.parsed_tree_laws.specs.sense_laws.Sound.{Gives}
use Rattle.parsed_tree_laws.proofs.sense_laws.Giving.{then_gives, gives_weaker, if_given, if_holds, and_left, and_right, differs}
use Rattle.parsed_tree_laws.proofs.sense_laws.Conversions.{whole_integer, address_pointer, common_promoted, promoted_integer}
use Rattle.parsed_tree_laws.proofs.sense_laws.Operators.{scalar_type}
use Rattle.parsed_tree_laws.specs.sense_laws.row_trees.Trees.{RowsValue, RowsOf}
use Rattle.parsed_tree_laws.proofs.sense_laws.row_trees.Conversions.{pointer_to_void, converted_rows, made_rows, promotion_promoted, promotion_value}

-- the operators by what they ask of their operands
pub IsComputing : Op → Type 0
IsComputing Multiply = ⊤
IsComputing Divide = ⊤
IsComputing Remainder = ⊤
IsComputing Plus = ⊤
IsComputing Minus = ⊤
IsComputing And = ⊤
IsComputing Xor = ⊤
IsComputing Or = ⊤
IsComputing op = ⊥

pub IsComparing : Op → Type 0
IsComparing Less = ⊤
IsComparing Greater = ⊤
IsComparing LessEqual = ⊤
IsComparing GreaterEqual = ⊤
IsComparing Equal = ⊤
IsComparing NotEqual = ⊤
IsComparing op = ⊥

pub IsShift : Op → Type 0
IsShift ShiftLeft = ⊤
IsShift ShiftRight = ⊤
IsShift op = ⊥

computes : (op : Op) (a b t : Ctype) → IsComputing op → Computes a b t → Binary op a b t
unfolding IsComputing
computes Multiply a b t k h = h
computes Divide a b t k h = h
computes Remainder a b t k h = h
computes Plus a b t k h = h
computes Minus (IntegerType size rank signed) b t k h = h
computes Minus a b t k h = absurd h.0
computes And a b t k h = h
computes Xor a b t k h = h
computes Or a b t k h = h
computes op a b t k h = absurd k

compares : (op : Op) (a b t : Ctype) → IsComparing op → Compares a b t → Binary op a b t
unfolding IsComparing
compares Less a b t k h = h
compares Greater a b t k h = h
compares LessEqual a b t k h = h
compares GreaterEqual a b t k h = h
compares Equal a b t k h = h
compares NotEqual a b t k h = h
compares op a b t k h = absurd k

shifts : (op : Op) (a b t : Ctype) → IsShift op → Shifts a b t → Binary op a b t
unfolding IsShift
shifts ShiftLeft a b t k h = h
shifts ShiftRight a b t k h = h
shifts op a b t k h = absurd k

subtracts : (a b : Ctype) → IsPointer a → a ≡ b → Binary Minus a b long
subtracts (PointerTo to) b h e = (e, refl)
subtracts a b h e = absurd h

module _ (w : World) where
  pub over_two_rows : (op : Op) (place : Place) (t : Ctype) (a b : Core) → RowsValue a → RowsValue b → Binary op (ctype_of a) (ctype_of b) t → RowsValue (over_two (Arith op) place t a b)
  over_two_rows op place t a b h k row = (((h.1, k.1, row), (h.0, (k.0, tt))), refl)

  pub common_type_promoted : (a b : Core) → RowsValue a → RowsValue b → IsInteger (ctype_of a) → IsInteger (ctype_of b) → IsPromoted (common_of w a b)
  common_type_promoted a b h k x y = common_promoted (ctype_of (promotion w a)) (ctype_of (promotion w b)) (promotion_promoted w a h x) (promotion_promoted w b k y)

  pub in_common_rows : (a b x : Core) → RowsValue x → IsInteger (ctype_of x) → IsPromoted (common_of w a b) → RowsOf (common_of w a b) (in_common w a b x)
  in_common_rows a b x h whole common_type =
      made_rows w (common_of w a b) (promotion w x) (promotion_value w x h whole) (promoted_integer (ctype_of (promotion w x)) (promotion_promoted w x h whole)) (promoted_integer (common_of w a b) common_type)

  module _ (a b : Core) (h : RowsValue a) (k : RowsValue b) where
    module _ (x : IsInteger (ctype_of a)) (y : IsInteger (ctype_of b)) where
      left_common : RowsOf (common_of w a b) (in_common w a b a)
      left_common = in_common_rows a b a h x (common_type_promoted a b h k x y)

      right_common : RowsOf (common_of w a b) (in_common w a b b)
      right_common = in_common_rows a b b k y (common_type_promoted a b h k x y)

      left_promoted : IsPromoted (ctype_of (in_common w a b a))
      left_promoted = subst IsPromoted (sym left_common.1.1) (common_type_promoted a b h k x y)

      same_common : ctype_of (in_common w a b a) ≡ ctype_of (in_common w a b b)
      same_common = left_common.1.1 ∙ sym right_common.1.1

      pub arithmetic_rows : (op : Op) (place : Place) → IsComputing op → RowsValue (arithmetic w op place a b)
      arithmetic_rows op place is =
          over_two_rows op place (common_of w a b) (in_common w a b a) (in_common w a b b) (left_common.0, left_common.1.0) (right_common.0, right_common.1.0)
          (computes op (ctype_of (in_common w a b a)) (ctype_of (in_common w a b b)) (common_of w a b) is (left_promoted, same_common, sym left_common.1.1))

      pub comparison_rows : (op : Op) (place : Place) → IsComparing op → RowsValue (comparison w op place a b)
      comparison_rows op place is =
          over_two_rows op place int (in_common w a b a) (in_common w a b b) (left_common.0, left_common.1.0) (right_common.0, right_common.1.0)
          (compares op (ctype_of (in_common w a b a)) (ctype_of (in_common w a b b)) int is (inl left_promoted, same_common, refl))

      pub shifted_rows : (op : Op) (place : Place) → IsShift op → RowsValue (shifted w op place a b)
      shifted_rows op place is =
          let p : IsPromoted (ctype_of (promotion w a)) = promotion_promoted w a h x in
          over_two_rows op place (ctype_of (promotion w a)) (promotion w a) (promotion w b) (promotion_value w a h x) (promotion_value w b k y)
          (shifts op (ctype_of (promotion w a)) (ctype_of (promotion w b)) (ctype_of (promotion w a)) is (p, promotion_promoted w b k y, refl))

      pub both_common : Gives (λ (both : Both). RowsValue both.left × RowsOf (ctype_of both.left) both.right) (Fits (record { left = in_common w a b a; right = in_common w a b b }))
      both_common = ((left_common.0, left_common.1.0), (right_common.0, (right_common.1.0, sym same_common)))

-- two operands of one type
pub RowsBoth : Both → Type 0
RowsBoth both = RowsValue both.left × RowsOf (ctype_of both.left) both.right

void_type : (t : Ctype) → is_void t ≡ true → t ≡ VoidType
void_type VoidType h = refl
void_type t h = cc

no_function : (t : Ctype) → is_object t ≡ true → (r : Ctype) (ps : _) (f : _) → t ≡ FunctionFrom r ps f → ⊥
no_function (FunctionFrom q qs g) h r ps f e = cc
no_function t h r ps f e = cc

module _ (w : World) where
  pub null_of : (t : Ctype) (v : Core) → RowsOf t (null_value t v)
  null_of t v = ((tt, tt), (refl, refl))

  pub moved_rows : (minus : Bool) (place : Place) (at : ℕ) (p n : Core) (to : Ctype) → RowsValue p → RowsValue n → ctype_of p ≡ PointerTo to → IsInteger (ctype_of n) → Gives (λ c. RowsOf (PointerTo to) c) (moved w minus place at p n to)
  moved_rows minus place at p n to h k e whole =
      if_given (λ c. RowsOf (PointerTo to) c) (has_size w to) Operand at (Fits (over_two (PointerAdd minus) place (ctype_of p) p n))
      (λ size. ((tt, (h.0, (k.0, tt))), (refl, e)))

  pub moved_value : (minus : Bool) (place : Place) (at : ℕ) (p n : Core) (to : Ctype) → RowsValue p → RowsValue n → ctype_of p ≡ PointerTo to → IsInteger (ctype_of n) → Gives (RowsValue) (moved w minus place at p n to)
  moved_value minus place at p n to h k e whole = gives_weaker (λ c. RowsOf (PointerTo to) c) (RowsValue) (moved w minus place at p n to) (λ c s. (s.0, s.1.0)) (moved_rows minus place at p n to h k e whole)

  pub number_rows : (n : ℕ) (place : Place) → n ≡ 0 → RowsOf int (number_core n place)
  number_rows n place e = subst (λ (k : ℕ). RowsOf int (number_core k place)) (sym e) (((le_z_yes tt, lt_z_yes tt), tt), (refl, refl))

  pub one_rows : (place : Place) → RowsOf int (number_core 1 place)
  one_rows place = (((le_z_yes tt, lt_z_yes tt), tt), (refl, refl))

  chosen_rows : (place : Place) (t : Ctype) (c a b : Core) → RowsValue c → IsScalar (ctype_of c) → RowsOf t a → RowsOf t b → RowsOf t (over_three Choose place t c a b)
  chosen_rows place t c a b h scalar x y = ((((h.1, scalar), x.1, y.1), (h.0, (x.0, (y.0, tt)))), (refl, refl))

  truth_rows : (place : Place) (b : Core) → RowsValue b → IsScalar (ctype_of b) → RowsOf int (truth place b)
  truth_rows place b h scalar = chosen_rows place int b (number_core 1 place) (number_core 0 place) h scalar (one_rows place) (number_rows 0 place refl)

  module _ (a b : Core) (h : RowsValue a) (k : RowsValue b) where
    numeric_rows : (op : Op) (place : Place) (at : ℕ) → IsComputing op → (x y : OperandSort) → operand_of (ctype_of a) ≡ x → operand_of (ctype_of b) ≡ y → Gives (RowsValue) (numeric_row w op place at a b x y)
    numeric_rows op place at is Whole Whole e f = arithmetic_rows w a b h k (whole_integer (ctype_of a) e) (whole_integer (ctype_of b) f) op place is
    numeric_rows op place at is x y e f = tt

    shift_rows : (op : Op) (place : Place) (at : ℕ) → IsShift op → (x y : OperandSort) → operand_of (ctype_of a) ≡ x → operand_of (ctype_of b) ≡ y → Gives (RowsValue) (shift_row w op place at a b x y)
    shift_rows op place at is Whole Whole e f = shifted_rows w a b h k (whole_integer (ctype_of a) e) (whole_integer (ctype_of b) f) op place is
    shift_rows op place at is x y e f = tt

    plus_rows : (place : Place) (at : ℕ) (x y : OperandSort) → operand_of (ctype_of a) ≡ x → operand_of (ctype_of b) ≡ y → Gives (RowsValue) (plus_row w place at a b x y)
    unfolding IsComputing
    plus_rows place at Whole Whole e f = arithmetic_rows w a b h k (whole_integer (ctype_of a) e) (whole_integer (ctype_of b) f) Plus place tt
    plus_rows place at (Address to) Whole e f = moved_value false place at a b to h k (address_pointer (ctype_of a) to e) (whole_integer (ctype_of b) f)
    plus_rows place at Whole (Address to) e f = moved_value false place at b a to k h (address_pointer (ctype_of b) to f) (whole_integer (ctype_of a) e)
    plus_rows place at x y e f = tt

    same_pointers : (x y : Ctype) → operand_of (ctype_of a) ≡ Address x → operand_of (ctype_of b) ≡ Address y → same_type x y ≡ true → ctype_of a ≡ ctype_of b
    same_pointers x y e f same = address_pointer (ctype_of a) x e ∙ (ap PointerTo (type_sound x y same) ∙ sym (address_pointer (ctype_of b) y f))

    is_pointer : (x : Ctype) → operand_of (ctype_of a) ≡ Address x → IsPointer (ctype_of a)
    is_pointer x e = subst IsPointer (sym (address_pointer (ctype_of a) x e)) tt

    minus_rows : (place : Place) (at : ℕ) (x y : OperandSort) → operand_of (ctype_of a) ≡ x → operand_of (ctype_of b) ≡ y → Gives (RowsValue) (minus_row w place at a b x y)
    unfolding IsComputing
    minus_rows place at Whole Whole e f = arithmetic_rows w a b h k (whole_integer (ctype_of a) e) (whole_integer (ctype_of b) f) Minus place tt
    minus_rows place at (Address to) Whole e f = moved_value true place at a b to h k (address_pointer (ctype_of a) to e) (whole_integer (ctype_of b) f)
    minus_rows place at (Address x) (Address y) e f =
        if_given (RowsValue) (same_type x y) Operand at (Fits (difference place a b))
        (λ same. over_two_rows w Minus place long a b h k (subtracts (ctype_of a) (ctype_of b) (is_pointer x e) (same_pointers x y e f same)))
    minus_rows place at x y e f = tt

    pub compared_rows : (op : Op) (place : Place) → IsComparing op → IsPointer (ctype_of a) → ctype_of a ≡ ctype_of b → RowsValue (compared op place a b)
    compared_rows op place is pointer same = over_two_rows w op place int a b h k (compares op (ctype_of a) (ctype_of b) int is (inr pointer, same, refl))

    order_rows : (op : Op) (place : Place) (at : ℕ) → IsComparing op → (x y : OperandSort) → operand_of (ctype_of a) ≡ x → operand_of (ctype_of b) ≡ y → Gives (RowsValue) (order_row w op place at a b x y)
    order_rows op place at is Whole Whole e f = comparison_rows w a b h k (whole_integer (ctype_of a) e) (whole_integer (ctype_of b) f) op place is
    order_rows op place at is (Address x) (Address y) e f =
        if_given (RowsValue) (same_type x y) Operand at (Fits (compared op place a b)) (λ same. compared_rows op place is (is_pointer x e) (same_pointers x y e f same))
    order_rows op place at is x y e f = tt

    -- two pointers as operands of one type
    joined_rows : (at : ℕ) (x y : Ctype) → operand_of (ctype_of a) ≡ Address x → operand_of (ctype_of b) ≡ Address y → Gives (λ both. RowsBoth both × IsPointer (ctype_of both.left)) (joined at a b x y)
    unfolding RowsBoth
    joined_rows at x y e f =
        let P : Both → Type 0 = λ both. RowsBoth both × IsPointer (ctype_of both.left) in
        let ea : ctype_of a ≡ PointerTo x = address_pointer (ctype_of a) x e in
        let eb : ctype_of b ≡ PointerTo y = address_pointer (ctype_of b) y f in
        let pa : IsPointer (ctype_of a) = is_pointer x e in
        let pb : IsPointer (ctype_of b) = subst IsPointer (sym eb) tt in
        if_holds (Gives P) (same_type x y) (Fits (record { left = a; right = b })) _ (λ same. ((h, (k.0, (k.1, sym (same_pointers x y e f same)))), pa))
        (λ other.
        let ne : ctype_of a ≢ ctype_of b = λ same. differs x y other (let both : PointerTo x ≡ PointerTo y = sym ea ∙ (same ∙ eb) in cc) in
        if_holds (Gives P) (is_null b) (Fits (record { left = a; right = null_value (ctype_of a) b })) _ (λ null. ((h, null_of (ctype_of a) b), pa))
        (λ full.
        if_holds (Gives P) (is_null a) (Fits (record { left = null_value (ctype_of b) a; right = b })) _
        (λ null. let n = null_of (ctype_of b) a in (((n.0, n.1.0), (k.0, (k.1, refl))), pb))
        (λ full.
        if_holds (Gives P) (is_void y && is_object x) (Fits (record { left = converted (ctype_of b) a; right = b })) _
        (λ void.
        let ey : ctype_of b ≡ PointerTo VoidType = eb ∙ ap PointerTo (void_type y (and_left (is_void y) (is_object x) void)) in
        let converts : Converts (ctype_of a) (ctype_of b) =
        subst (λ (q : Ctype). Converts q (ctype_of b)) (sym ea) (subst (λ (q : Ctype). Converts (PointerTo x) q) (sym ey) (pointer_to_void x (no_function x (and_right (is_void y) (is_object x) void)))) in
        let c = converted_rows w (ctype_of b) a h ne converts in
        (((c.0, c.1.0), (k.0, (k.1, refl))), pb))
        (λ solid.
        if_holds (Gives P) (is_void x && is_object y) (Fits (record { left = a; right = converted (ctype_of a) b })) (Refuses Operand at)
        (λ void.
        let ex : ctype_of a ≡ PointerTo VoidType = ea ∙ ap PointerTo (void_type x (and_left (is_void x) (is_object y) void)) in
        let converts : Converts (ctype_of b) (ctype_of a) =
        subst (λ (q : Ctype). Converts q (ctype_of a)) (sym eb) (subst (λ (q : Ctype). Converts (PointerTo y) q) (sym ex) (pointer_to_void y (no_function y (and_right (is_void x) (is_object y) void)))) in
        ((h, converted_rows w (ctype_of a) b k (λ same. ne (sym same)) converts), pa))
        (λ none. tt)))))

    pub pointers_joined_rows : (at : ℕ) (x y : OperandSort) → operand_of (ctype_of a) ≡ x → operand_of (ctype_of b) ≡ y → Gives (λ both. RowsBoth both × IsPointer (ctype_of both.left)) (pointers_joined at a b x y)
    unfolding RowsBoth
    pointers_joined_rows at (Address x) (Address y) e f = joined_rows at x y e f
    pointers_joined_rows at (Address x) Whole e f =
        if_given (λ both. RowsBoth both × IsPointer (ctype_of both.left)) (is_null b) Operand at (Fits (record { left = a; right = null_value (ctype_of a) b }))
        (λ null. ((h, null_of (ctype_of a) b), is_pointer x e))
    pointers_joined_rows at Whole (Address y) e f =
        let pb : IsPointer (ctype_of b) = subst IsPointer (sym (address_pointer (ctype_of b) y f)) tt in
        if_given (λ both. RowsBoth both × IsPointer (ctype_of both.left)) (is_null a) Operand at (Fits (record { left = null_value (ctype_of b) a; right = b }))
        (λ null. let n = null_of (ctype_of b) a in (((n.0, n.1.0), (k.0, (k.1, refl))), pb))
    pointers_joined_rows at x y e f = tt

    pointers_compared_rows : (op : Op) (place : Place) (at : ℕ) → IsComparing op → (x y : OperandSort) → operand_of (ctype_of a) ≡ x → operand_of (ctype_of b) ≡ y → Gives (RowsValue) (pointers_joined at a b x y >>= (λ both. Fits (compared op place both.left both.right)))
    unfolding RowsBoth
    pointers_compared_rows op place at is x y e f =
        then_gives (λ both. RowsBoth both × IsPointer (ctype_of both.left)) (RowsValue) (pointers_joined at a b x y) (λ both. Fits (compared op place both.left both.right)) (pointers_joined_rows at x y e f)
        (λ both s. over_two_rows w op place int both.left both.right s.0.0 (s.0.1.0, s.0.1.1.0) (compares op (ctype_of both.left) (ctype_of both.right) int is (inr s.1, sym s.0.1.1.1, refl)))

    equality_rows : (op : Op) (place : Place) (at : ℕ) → IsComparing op → (x y : OperandSort) → operand_of (ctype_of a) ≡ x → operand_of (ctype_of b) ≡ y → Gives (RowsValue) (equality_row w op place at a b x y)
    equality_rows op place at is Whole Whole e f = comparison_rows w a b h k (whole_integer (ctype_of a) e) (whole_integer (ctype_of b) f) op place is
    equality_rows op place at is x y e f = pointers_compared_rows op place at is x y e f

    both_rows : (place : Place) (at : ℕ) → Gives (RowsValue) (both_row place at a b)
    both_rows place at =
        if_given (RowsValue) (is_scalar (operand_of (ctype_of a)) && is_scalar (operand_of (ctype_of b))) Operand at (Fits (both_core place a b))
        (λ scalars.
        let c = chosen_rows place int a (truth place b) (number_core 0 place) h (scalar_type (ctype_of a) (and_left (is_scalar (operand_of (ctype_of a))) (is_scalar (operand_of (ctype_of b))) scalars)) (truth_rows place b k (scalar_type (ctype_of b) (and_right (is_scalar (operand_of (ctype_of a))) (is_scalar (operand_of (ctype_of b))) scalars))) (number_rows 0 place refl) in
        (c.0, c.1.0))

    either_rows : (place : Place) (at : ℕ) → Gives (RowsValue) (either_row place at a b)
    either_rows place at =
        if_given (RowsValue) (is_scalar (operand_of (ctype_of a)) && is_scalar (operand_of (ctype_of b))) Operand at (Fits (either_core place a b))
        (λ scalars.
        let c = chosen_rows place int a (number_core 1 place) (truth place b) h (scalar_type (ctype_of a) (and_left (is_scalar (operand_of (ctype_of a))) (is_scalar (operand_of (ctype_of b))) scalars)) (one_rows place) (truth_rows place b k (scalar_type (ctype_of b) (and_right (is_scalar (operand_of (ctype_of a))) (is_scalar (operand_of (ctype_of b))) scalars))) in
        (c.0, c.1.0))

    sequence_rows : (place : Place) → RowsValue (sequence place a b)
    sequence_rows place = ((tt, (h.0, (k.0, tt))), refl)

    other_branches : (at : ℕ) (x y : OperandSort) → operand_of (ctype_of a) ≡ x → operand_of (ctype_of b) ≡ y → Gives (RowsBoth) (if same_type (ctype_of a) (ctype_of b) then Fits (record { left = a; right = b }) else pointers_joined at a b x y)
    unfolding RowsBoth
    other_branches at x y e f =
        if_holds (Gives (RowsBoth)) (same_type (ctype_of a) (ctype_of b)) (Fits (record { left = a; right = b })) (pointers_joined at a b x y) (λ same. (h, (k.0, (k.1, sym (type_sound (ctype_of a) (ctype_of b) same)))))
        (λ other. gives_weaker (λ both. RowsBoth both × IsPointer (ctype_of both.left)) (RowsBoth) (pointers_joined at a b x y) (λ both s. s.0) (pointers_joined_rows at x y e f))

    branches_rows : (at : ℕ) (x y : OperandSort) → operand_of (ctype_of a) ≡ x → operand_of (ctype_of b) ≡ y → Gives (RowsBoth) (branches w at a b x y)
    unfolding RowsBoth
    branches_rows at Whole Whole e f = both_common w a b h k (whole_integer (ctype_of a) e) (whole_integer (ctype_of b) f)
    branches_rows at x y e f = other_branches at x y e f

  pub choice_rows : (place : Place) (at : ℕ) (c a b : Core) → RowsValue c → RowsValue a → RowsValue b → Gives (RowsValue) (choice_row w place at c a b)
  unfolding RowsBoth
  choice_rows place at c a b g h k =
      if_given (RowsValue) (is_scalar (operand_of (ctype_of c))) Operand at (branches w at a b (operand_of (ctype_of a)) (operand_of (ctype_of b)) >>= (λ both. Fits (chosen place c both)))
      (λ scalar.
      then_gives (RowsBoth) (RowsValue) (branches w at a b (operand_of (ctype_of a)) (operand_of (ctype_of b))) (λ both. Fits (chosen place c both)) (branches_rows a b h k at (operand_of (ctype_of a)) (operand_of (ctype_of b)) refl refl)
      (λ both s.
      let x = chosen_rows place (ctype_of both.left) c both.left both.right g (scalar_type (ctype_of c) scalar) (s.0.0, (s.0.1, refl)) s.1 in
      (x.0, x.1.0)))

  -- an operator between two values: what it may be, and its row
  pub FitsBetween : Between → Type 0
  FitsBetween (Numeric op) = IsComputing op
  FitsBetween (Shifting op) = IsShift op
  FitsBetween (Ordering op) = IsComparing op
  FitsBetween (Equating op) = IsComparing op
  FitsBetween op = ⊤

  pub between_rows : (op : Between) (place : Place) (at : ℕ) (a b : Core) → FitsBetween op → RowsValue a → RowsValue b → Gives (RowsValue) (between w op place at a b)
  unfolding FitsBetween
  between_rows (Numeric op) place at a b is h k = numeric_rows a b h k op place at is (operand_of (ctype_of a)) (operand_of (ctype_of b)) refl refl
  between_rows (Shifting op) place at a b is h k = shift_rows a b h k op place at is (operand_of (ctype_of a)) (operand_of (ctype_of b)) refl refl
  between_rows Adding place at a b is h k = plus_rows a b h k place at (operand_of (ctype_of a)) (operand_of (ctype_of b)) refl refl
  between_rows Subtracting place at a b is h k = minus_rows a b h k place at (operand_of (ctype_of a)) (operand_of (ctype_of b)) refl refl
  between_rows (Ordering op) place at a b is h k = order_rows a b h k op place at is (operand_of (ctype_of a)) (operand_of (ctype_of b)) refl refl
  between_rows (Equating op) place at a b is h k = equality_rows a b h k op place at is (operand_of (ctype_of a)) (operand_of (ctype_of b)) refl refl
  between_rows BothTrue place at a b is h k = both_rows a b h k place at
  between_rows EitherTrue place at a b is h k = either_rows a b h k place at
  between_rows Following place at a b is h k = sequence_rows a b h k place
  between_rows NoOperator place at a b is h k = tt

  fits_if : (b : Bool) (x y : Between) → FitsBetween x → FitsBetween y → FitsBetween (if b then x else y)
  fits_if true x y h k = h
  fits_if false x y h k = k

  other_fits : (sign : ℕ) → FitsBetween (other_operator sign)
  unfolding FitsBetween IsComputing IsComparing
  other_fits sign =
      fits_if (sign == sign_equal) (Equating Equal) _ tt
      (fits_if (sign == sign_not_equal) (Equating NotEqual) _ tt
      (fits_if (sign == sign_ampersand) (Numeric And) _ tt
      (fits_if (sign == sign_caret) (Numeric Xor) _ tt
      (fits_if (sign == sign_bar) (Numeric Or) _ tt
      (fits_if (sign == sign_both) BothTrue _ tt
      (fits_if (sign == sign_either_or) EitherTrue _ tt
      (fits_if (sign == sign_comma) Following NoOperator tt tt)))))))

  pub operator_fits : (sign : ℕ) → FitsBetween (operator sign)
  unfolding FitsBetween IsComputing IsComparing IsShift
  operator_fits sign =
      fits_if (sign == sign_star) (Numeric Multiply) _ tt
      (fits_if (sign == sign_slash) (Numeric Divide) _ tt
      (fits_if (sign == sign_percent) (Numeric Remainder) _ tt
      (fits_if (sign == sign_plus) Adding _ tt
      (fits_if (sign == sign_minus) Subtracting _ tt
      (fits_if (sign == sign_shift_left) (Shifting ShiftLeft) _ tt
      (fits_if (sign == sign_shift_right) (Shifting ShiftRight) _ tt
      (fits_if (sign == sign_less) (Ordering Less) _ tt
      (fits_if (sign == sign_greater) (Ordering Greater) _ tt
      (fits_if (sign == sign_less_equal) (Ordering LessEqual) _ tt
      (fits_if (sign == sign_greater_equal) (Ordering GreaterEqual) (other_operator sign) tt (other_fits sign)))))))))))

  -- operators before their operands
  pub promoted_row_rows : (op : Op) (place : Place) (at : ℕ) (v : Core) → ((a t : Ctype) → IsPromoted a × (t ≡ a) → Unary op a t) → RowsValue v → (sort : OperandSort) → operand_of (ctype_of v) ≡ sort → Gives (RowsValue) (promoted_row w op place at v sort)
  promoted_row_rows op place at v row h Whole e =
      let whole : IsInteger (ctype_of v) = whole_integer (ctype_of v) e in
      let p : IsPromoted (ctype_of (promotion w v)) = promotion_promoted w v h whole in
      let x = promotion_value w v h whole in
      (((x.1, row (ctype_of (promotion w v)) (ctype_of (promotion w v)) (p, refl)), (x.0, tt)), refl)
  promoted_row_rows op place at v row h sort e = tt

  pub not_rows : (place : Place) (at : ℕ) (v : Core) → RowsValue v → Gives (RowsValue) (not_row place at v)
  not_rows place at v h =
      if_given (RowsValue) (is_scalar (operand_of (ctype_of v))) Operand at (Fits (over (Arith Not) place int v)) (λ scalar. (((h.1, (scalar_type (ctype_of v) scalar, refl)), (h.0, tt)), refl))
