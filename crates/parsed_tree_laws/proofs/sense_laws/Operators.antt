-- Operators over sound values are sound.
use Rattle.std.proofs.Common.{◌≡◌, ◌≢◌, ℕ, ◌==◌, Bool, true, false, ◌&&◌, Option, Some, None, refl, sym, ap, ◌∙◌, subst, inl, inr}
use Rattle.std.specs.Prelude.{⊤, is_some, if◌then◌else◌}
use Rattle.std.specs.Int.Signed.{le_z_yes, lt_z_yes}
use Rattle.c_grammar.specs.Words.{sign_star, sign_slash, sign_percent, sign_plus, sign_minus, sign_shift_left, sign_shift_right, sign_less, sign_greater, sign_less_equal, sign_greater_equal, sign_equal, sign_not_equal, sign_ampersand, sign_caret, sign_bar, sign_both, sign_either_or, sign_comma}
use Rattle.pta_base.specs.declared.kind.Kind.TheVariants.{Operand}
use Rattle.pta_base.specs.declared.place.Place.{Place}
use Rattle.c_types.specs.Trees.{Ctype, VoidType, BoolType, IntegerType, PointerTo, FunctionFrom}
use Rattle.c_types.specs.Layout.{Extent}
use Rattle.c_types.specs.Table.{size_below}
use Rattle.c_conversions.specs.passed.core_tree.declared.node.Op.{Op}
use Rattle.c_conversions.specs.passed.core_tree.declared.node.Op.TheVariants.{Multiply, Divide, Remainder, Plus, Minus, ShiftLeft, ShiftRight, Less, Greater, LessEqual, GreaterEqual, Equal, NotEqual, And, Xor, Or, Not}
use Rattle.c_conversions.specs.passed.core_tree.declared.node.NodeKind.TheVariants.{PointerAdd, Choose, Arith}
use Rattle.c_conversions.specs.passed.core_tree.Typed.{IsInteger, IsScalar, IsPromoted, IsPointer}
use Rattle.c_conversions.specs.passed.core_tree.Rows.{int, long, Binary, Unary, Compares, Computes, Shifts, Converts}
use Rattle.c_senses.specs.passed.c_consts.Core.{Core, ctype_of, over, over_two, over_three}
use Rattle.c_senses.specs.Given.{Fits, Refuses, ◌>>=◌}
use Rattle.c_senses.specs.World.{World, extent, has_size, same_type}
use Rattle.c_senses.specs.Nulls.{is_null}
use Rattle.c_senses.specs.Conversions.{OperandSort, Whole, Address, operand_of, is_scalar, promotion, converted, null_value}
use Rattle.c_senses.specs.Operators.{common_of, in_common, arithmetic, comparison, numeric_row, shifted, shift_row, moved, plus_row, difference, minus_row, compared, order_row, is_void, is_object, Both, joined, pointers_joined, equality_row, number_core, truth, both_core, either_core, both_row, either_row, sequence, Between, Numeric, Shifting, Adding, Subtracting, Ordering, Equating, BothTrue, EitherTrue, Following, NoOperator, between, other_operator, operator, promoted_row, not_row, chosen, branches, choice_row}
use Rattle.c_conversions.proofs.passed.core_nodes.SameTypes.{type_sound}
use Rattle.parsed_tree_laws.specs.sense_laws.Sound.{SoundValue, SoundOf, IsProper, PointsToSized, Gives}
use Rattle.parsed_tree_laws.proofs.sense_laws.Giving.{then_gives, gives_weaker, if_given, if_holds, and_left, and_right, differs}
use Rattle.parsed_tree_laws.proofs.sense_laws.Conversions.{proper_of, whole_integer, address_pointer, converted_sound, made_sound, promotion_promoted, promotion_value, common_promoted, common_proper, promoted_integer, pointer_to_void}

pub scalar_type : (t : Ctype) → is_scalar (operand_of t) ≡ true → IsScalar t
scalar_type BoolType h = inl tt
scalar_type (IntegerType size rank signed) h = inl tt
scalar_type (PointerTo to) h = inr tt
scalar_type t h = cc

-- the operators by what they ask of their operands
pub IsComputing : Op → Type 0
IsComputing Multiply = ⊤
IsComputing Divide = ⊤
IsComputing Remainder = ⊤
IsComputing Plus = ⊤
IsComputing Minus = ⊤
IsComputing And = ⊤
IsComputing Xor = ⊤
IsComputing Or = ⊤
IsComputing op = ⊥

pub IsComparing : Op → Type 0
IsComparing Less = ⊤
IsComparing Greater = ⊤
IsComparing LessEqual = ⊤
IsComparing GreaterEqual = ⊤
IsComparing Equal = ⊤
IsComparing NotEqual = ⊤
IsComparing op = ⊥

pub IsShift : Op → Type 0
IsShift ShiftLeft = ⊤
IsShift ShiftRight = ⊤
IsShift op = ⊥

computes : (op : Op) (a b t : Ctype) → IsComputing op → Computes a b t → Binary op a b t
unfolding IsComputing
computes Multiply a b t k h = h
computes Divide a b t k h = h
computes Remainder a b t k h = h
computes Plus a b t k h = h
computes Minus (IntegerType size rank signed) b t k h = h
computes Minus a b t k h = absurd h.0
computes And a b t k h = h
computes Xor a b t k h = h
computes Or a b t k h = h
computes op a b t k h = absurd k

compares : (op : Op) (a b t : Ctype) → IsComparing op → Compares a b t → Binary op a b t
unfolding IsComparing
compares Less a b t k h = h
compares Greater a b t k h = h
compares LessEqual a b t k h = h
compares GreaterEqual a b t k h = h
compares Equal a b t k h = h
compares NotEqual a b t k h = h
compares op a b t k h = absurd k

shifts : (op : Op) (a b t : Ctype) → IsShift op → Shifts a b t → Binary op a b t
unfolding IsShift
shifts ShiftLeft a b t k h = h
shifts ShiftRight a b t k h = h
shifts op a b t k h = absurd k

subtracts : (a b : Ctype) → IsPointer a → a ≡ b → Binary Minus a b long
subtracts (PointerTo to) b h e = (e, refl)
subtracts a b h e = absurd h

module _ (w : World) (entities : ℕ → Option Ctype) where
  pub over_two_sound : (op : Op) (place : Place) (t : Ctype) (a b : Core) → SoundValue w entities a → SoundValue w entities b → Binary op (ctype_of a) (ctype_of b) t → IsProper t → SoundValue w entities (over_two (Arith op) place t a b)
  over_two_sound op place t a b h k row proper = (((h.1, k.1, row), proper, tt, (h.0, (k.0, tt))), refl)

  pub common_type_promoted : (a b : Core) → SoundValue w entities a → SoundValue w entities b → IsInteger (ctype_of a) → IsInteger (ctype_of b) → IsPromoted (common_of w a b)
  common_type_promoted a b h k x y = common_promoted (ctype_of (promotion w a)) (ctype_of (promotion w b)) (promotion_promoted w entities a h x) (promotion_promoted w entities b k y)

  pub promotion_proper : (v : Core) → SoundValue w entities v → IsInteger (ctype_of v) → IsProper (ctype_of (promotion w v))
  promotion_proper v h whole = proper_of w entities (promotion w v) (promotion_value w entities v h whole).0

  pub common_type_proper : (a b : Core) → SoundValue w entities a → SoundValue w entities b → IsInteger (ctype_of a) → IsInteger (ctype_of b) → IsProper (common_of w a b)
  common_type_proper a b h k x y =
      common_proper (ctype_of (promotion w a)) (ctype_of (promotion w b)) (promotion_promoted w entities a h x) (promotion_promoted w entities b k y) (promotion_proper a h x) (promotion_proper b k y)

  pub in_common_sound : (a b x : Core) → SoundValue w entities x → IsInteger (ctype_of x) → IsPromoted (common_of w a b) → IsProper (common_of w a b) → SoundOf w entities (common_of w a b) (in_common w a b x)
  in_common_sound a b x h whole common_type proper =
      made_sound w entities (common_of w a b) (promotion w x) (promotion_value w entities x h whole) (promoted_integer (ctype_of (promotion w x)) (promotion_promoted w entities x h whole)) (promoted_integer (common_of w a b) common_type) proper

  module _ (a b : Core) (h : SoundValue w entities a) (k : SoundValue w entities b) where
    module _ (x : IsInteger (ctype_of a)) (y : IsInteger (ctype_of b)) where
      left_common : SoundOf w entities (common_of w a b) (in_common w a b a)
      left_common = in_common_sound a b a h x (common_type_promoted a b h k x y) (common_type_proper a b h k x y)

      right_common : SoundOf w entities (common_of w a b) (in_common w a b b)
      right_common = in_common_sound a b b k y (common_type_promoted a b h k x y) (common_type_proper a b h k x y)

      left_promoted : IsPromoted (ctype_of (in_common w a b a))
      left_promoted = subst IsPromoted (sym left_common.1.1) (common_type_promoted a b h k x y)

      same_common : ctype_of (in_common w a b a) ≡ ctype_of (in_common w a b b)
      same_common = left_common.1.1 ∙ sym right_common.1.1

      pub arithmetic_sound : (op : Op) (place : Place) → IsComputing op → SoundValue w entities (arithmetic w op place a b)
      arithmetic_sound op place is =
          over_two_sound op place (common_of w a b) (in_common w a b a) (in_common w a b b) (left_common.0, left_common.1.0) (right_common.0, right_common.1.0)
          (computes op (ctype_of (in_common w a b a)) (ctype_of (in_common w a b b)) (common_of w a b) is (left_promoted, same_common, sym left_common.1.1))
          (common_type_proper a b h k x y)

      pub comparison_sound : (op : Op) (place : Place) → IsComparing op → SoundValue w entities (comparison w op place a b)
      comparison_sound op place is =
          over_two_sound op place int (in_common w a b a) (in_common w a b b) (left_common.0, left_common.1.0) (right_common.0, right_common.1.0)
          (compares op (ctype_of (in_common w a b a)) (ctype_of (in_common w a b b)) int is (inl left_promoted, same_common, refl)) tt

      pub shifted_sound : (op : Op) (place : Place) → IsShift op → SoundValue w entities (shifted w op place a b)
      shifted_sound op place is =
          let p : IsPromoted (ctype_of (promotion w a)) = promotion_promoted w entities a h x in
          over_two_sound op place (ctype_of (promotion w a)) (promotion w a) (promotion w b) (promotion_value w entities a h x) (promotion_value w entities b k y)
          (shifts op (ctype_of (promotion w a)) (ctype_of (promotion w b)) (ctype_of (promotion w a)) is (p, promotion_promoted w entities b k y, refl)) (promotion_proper a h x)

      pub both_common : Gives (λ (both : Both). SoundValue w entities both.left × SoundOf w entities (ctype_of both.left) both.right) (Fits (record { left = in_common w a b a; right = in_common w a b b }))
      both_common = ((left_common.0, left_common.1.0), (right_common.0, (right_common.1.0, sym same_common)))

-- two operands of one type
pub SoundBoth : (w : World) (entities : ℕ → Option Ctype) → Both → Type 0
SoundBoth w entities both = SoundValue w entities both.left × SoundOf w entities (ctype_of both.left) both.right

void_type : (t : Ctype) → is_void t ≡ true → t ≡ VoidType
void_type VoidType h = refl
void_type t h = cc

no_function : (t : Ctype) → is_object t ≡ true → (r : Ctype) (ps : _) (f : _) → t ≡ FunctionFrom r ps f → ⊥
no_function (FunctionFrom q qs g) h r ps f e = cc
no_function t h r ps f e = cc

sized : (o : Option Extent) → is_some (size_below o) ≡ true → is_some o ≡ true
sized None h = h
sized (Some e) h = refl

module _ (w : World) (entities : ℕ → Option Ctype) where
  V : Core → Type 0
  V c = SoundValue w entities c

  pub null_of : (t : Ctype) (v : Core) → IsPointer t → IsProper t → SoundOf w entities t (null_value t v)
  null_of t v pointer proper = ((pointer, proper, tt, tt), (refl, refl))

  points_sized : (t to : Ctype) → t ≡ PointerTo to → has_size w to ≡ true → PointsToSized w t
  points_sized t to e size = subst (λ (q : Ctype). PointsToSized w q) (sym e) (sized (extent w to) size)

  pub moved_sound : (minus : Bool) (place : Place) (at : ℕ) (p n : Core) (to : Ctype) → SoundValue w entities p → SoundValue w entities n → ctype_of p ≡ PointerTo to → IsInteger (ctype_of n) → Gives (λ c. SoundOf w entities (PointerTo to) c) (moved w minus place at p n to)
  moved_sound minus place at p n to h k e whole =
      if_given (λ c. SoundOf w entities (PointerTo to) c) (has_size w to) Operand at (Fits (over_two (PointerAdd minus) place (ctype_of p) p n))
      (λ size. ((((h.1, refl), points_sized (ctype_of p) to e size, (k.1, whole)), proper_of w entities p h.0, tt, (h.0, (k.0, tt))), (refl, e)))

  pub moved_value : (minus : Bool) (place : Place) (at : ℕ) (p n : Core) (to : Ctype) → SoundValue w entities p → SoundValue w entities n → ctype_of p ≡ PointerTo to → IsInteger (ctype_of n) → Gives (SoundValue w entities) (moved w minus place at p n to)
  moved_value minus place at p n to h k e whole = gives_weaker (λ c. SoundOf w entities (PointerTo to) c) (SoundValue w entities) (moved w minus place at p n to) (λ c s. (s.0, s.1.0)) (moved_sound minus place at p n to h k e whole)

  pub number_sound : (n : ℕ) (place : Place) → n ≡ 0 → SoundOf w entities int (number_core n place)
  number_sound n place e = subst (λ (k : ℕ). SoundOf w entities int (number_core k place)) (sym e) (((le_z_yes tt, lt_z_yes tt), tt, tt, tt), (refl, refl))

  pub one_sound : (place : Place) → SoundOf w entities int (number_core 1 place)
  one_sound place = (((le_z_yes tt, lt_z_yes tt), tt, tt, tt), (refl, refl))

  chosen_sound : (place : Place) (t : Ctype) (c a b : Core) → SoundValue w entities c → IsScalar (ctype_of c) → SoundOf w entities t a → SoundOf w entities t b → IsProper t → SoundOf w entities t (over_three Choose place t c a b)
  chosen_sound place t c a b h scalar x y proper = ((((h.1, scalar), x.1, y.1), proper, tt, (h.0, (x.0, (y.0, tt)))), (refl, refl))

  truth_sound : (place : Place) (b : Core) → SoundValue w entities b → IsScalar (ctype_of b) → SoundOf w entities int (truth place b)
  truth_sound place b h scalar = chosen_sound place int b (number_core 1 place) (number_core 0 place) h scalar (one_sound place) (number_sound 0 place refl) tt

  module _ (a b : Core) (h : SoundValue w entities a) (k : SoundValue w entities b) where
    numeric_sound : (op : Op) (place : Place) (at : ℕ) → IsComputing op → (x y : OperandSort) → operand_of (ctype_of a) ≡ x → operand_of (ctype_of b) ≡ y → Gives (SoundValue w entities) (numeric_row w op place at a b x y)
    numeric_sound op place at is Whole Whole e f = arithmetic_sound w entities a b h k (whole_integer (ctype_of a) e) (whole_integer (ctype_of b) f) op place is
    numeric_sound op place at is x y e f = tt

    shift_sound : (op : Op) (place : Place) (at : ℕ) → IsShift op → (x y : OperandSort) → operand_of (ctype_of a) ≡ x → operand_of (ctype_of b) ≡ y → Gives (SoundValue w entities) (shift_row w op place at a b x y)
    shift_sound op place at is Whole Whole e f = shifted_sound w entities a b h k (whole_integer (ctype_of a) e) (whole_integer (ctype_of b) f) op place is
    shift_sound op place at is x y e f = tt

    plus_sound : (place : Place) (at : ℕ) (x y : OperandSort) → operand_of (ctype_of a) ≡ x → operand_of (ctype_of b) ≡ y → Gives (SoundValue w entities) (plus_row w place at a b x y)
    unfolding IsComputing
    plus_sound place at Whole Whole e f = arithmetic_sound w entities a b h k (whole_integer (ctype_of a) e) (whole_integer (ctype_of b) f) Plus place tt
    plus_sound place at (Address to) Whole e f = moved_value false place at a b to h k (address_pointer (ctype_of a) to e) (whole_integer (ctype_of b) f)
    plus_sound place at Whole (Address to) e f = moved_value false place at b a to k h (address_pointer (ctype_of b) to f) (whole_integer (ctype_of a) e)
    plus_sound place at x y e f = tt

    same_pointers : (x y : Ctype) → operand_of (ctype_of a) ≡ Address x → operand_of (ctype_of b) ≡ Address y → same_type x y ≡ true → ctype_of a ≡ ctype_of b
    same_pointers x y e f same = address_pointer (ctype_of a) x e ∙ (ap PointerTo (type_sound x y same) ∙ sym (address_pointer (ctype_of b) y f))

    is_pointer : (x : Ctype) → operand_of (ctype_of a) ≡ Address x → IsPointer (ctype_of a)
    is_pointer x e = subst IsPointer (sym (address_pointer (ctype_of a) x e)) tt

    minus_sound : (place : Place) (at : ℕ) (x y : OperandSort) → operand_of (ctype_of a) ≡ x → operand_of (ctype_of b) ≡ y → Gives (SoundValue w entities) (minus_row w place at a b x y)
    unfolding IsComputing
    minus_sound place at Whole Whole e f = arithmetic_sound w entities a b h k (whole_integer (ctype_of a) e) (whole_integer (ctype_of b) f) Minus place tt
    minus_sound place at (Address to) Whole e f = moved_value true place at a b to h k (address_pointer (ctype_of a) to e) (whole_integer (ctype_of b) f)
    minus_sound place at (Address x) (Address y) e f =
        if_given (SoundValue w entities) (same_type x y) Operand at (Fits (difference place a b))
        (λ same. over_two_sound w entities Minus place long a b h k (subtracts (ctype_of a) (ctype_of b) (is_pointer x e) (same_pointers x y e f same)) tt)
    minus_sound place at x y e f = tt

    pub compared_sound : (op : Op) (place : Place) → IsComparing op → IsPointer (ctype_of a) → ctype_of a ≡ ctype_of b → SoundValue w entities (compared op place a b)
    compared_sound op place is pointer same = over_two_sound w entities op place int a b h k (compares op (ctype_of a) (ctype_of b) int is (inr pointer, same, refl)) tt

    order_sound : (op : Op) (place : Place) (at : ℕ) → IsComparing op → (x y : OperandSort) → operand_of (ctype_of a) ≡ x → operand_of (ctype_of b) ≡ y → Gives (SoundValue w entities) (order_row w op place at a b x y)
    order_sound op place at is Whole Whole e f = comparison_sound w entities a b h k (whole_integer (ctype_of a) e) (whole_integer (ctype_of b) f) op place is
    order_sound op place at is (Address x) (Address y) e f =
        if_given (SoundValue w entities) (same_type x y) Operand at (Fits (compared op place a b)) (λ same. compared_sound op place is (is_pointer x e) (same_pointers x y e f same))
    order_sound op place at is x y e f = tt

    -- two pointers as operands of one type
    joined_sound : (at : ℕ) (x y : Ctype) → operand_of (ctype_of a) ≡ Address x → operand_of (ctype_of b) ≡ Address y → Gives (λ both. SoundBoth w entities both × IsPointer (ctype_of both.left)) (joined at a b x y)
    unfolding SoundBoth
    joined_sound at x y e f =
        let P : Both → Type 0 = λ both. SoundBoth w entities both × IsPointer (ctype_of both.left) in
        let ea : ctype_of a ≡ PointerTo x = address_pointer (ctype_of a) x e in
        let eb : ctype_of b ≡ PointerTo y = address_pointer (ctype_of b) y f in
        let pa : IsPointer (ctype_of a) = is_pointer x e in
        let pb : IsPointer (ctype_of b) = subst IsPointer (sym eb) tt in
        if_holds (Gives P) (same_type x y) (Fits (record { left = a; right = b })) _ (λ same. ((h, (k.0, (k.1, sym (same_pointers x y e f same)))), pa))
        (λ other.
        let ne : ctype_of a ≢ ctype_of b = λ same. differs x y other (let both : PointerTo x ≡ PointerTo y = sym ea ∙ (same ∙ eb) in cc) in
        if_holds (Gives P) (is_null b) (Fits (record { left = a; right = null_value (ctype_of a) b })) _ (λ null. ((h, null_of (ctype_of a) b pa (proper_of w entities a h.0)), pa))
        (λ full.
        if_holds (Gives P) (is_null a) (Fits (record { left = null_value (ctype_of b) a; right = b })) _
        (λ null. let n = null_of (ctype_of b) a pb (proper_of w entities b k.0) in (((n.0, n.1.0), (k.0, (k.1, refl))), pb))
        (λ full.
        if_holds (Gives P) (is_void y && is_object x) (Fits (record { left = converted (ctype_of b) a; right = b })) _
        (λ void.
        let ey : ctype_of b ≡ PointerTo VoidType = eb ∙ ap PointerTo (void_type y (and_left (is_void y) (is_object x) void)) in
        let converts : Converts (ctype_of a) (ctype_of b) =
        subst (λ (q : Ctype). Converts q (ctype_of b)) (sym ea) (subst (λ (q : Ctype). Converts (PointerTo x) q) (sym ey) (pointer_to_void x (no_function x (and_right (is_void y) (is_object x) void)))) in
        let c = converted_sound w entities (ctype_of b) a h ne converts (proper_of w entities b k.0) in
        (((c.0, c.1.0), (k.0, (k.1, refl))), pb))
        (λ solid.
        if_holds (Gives P) (is_void x && is_object y) (Fits (record { left = a; right = converted (ctype_of a) b })) (Refuses Operand at)
        (λ void.
        let ex : ctype_of a ≡ PointerTo VoidType = ea ∙ ap PointerTo (void_type x (and_left (is_void x) (is_object y) void)) in
        let converts : Converts (ctype_of b) (ctype_of a) =
        subst (λ (q : Ctype). Converts q (ctype_of a)) (sym eb) (subst (λ (q : Ctype). Converts (PointerTo y) q) (sym ex) (pointer_to_void y (no_function y (and_right (is_void x) (is_object y) void)))) in
        ((h, converted_sound w entities (ctype_of a) b k (λ same. ne (sym same)) converts (proper_of w entities a h.0)), pa))
        (λ none. tt)))))

    pub pointers_joined_sound : (at : ℕ) (x y : OperandSort) → operand_of (ctype_of a) ≡ x → operand_of (ctype_of b) ≡ y → Gives (λ both. SoundBoth w entities both × IsPointer (ctype_of both.left)) (pointers_joined at a b x y)
    unfolding SoundBoth
    pointers_joined_sound at (Address x) (Address y) e f = joined_sound at x y e f
    pointers_joined_sound at (Address x) Whole e f =
        if_given (λ both. SoundBoth w entities both × IsPointer (ctype_of both.left)) (is_null b) Operand at (Fits (record { left = a; right = null_value (ctype_of a) b }))
        (λ null. ((h, null_of (ctype_of a) b (is_pointer x e) (proper_of w entities a h.0)), is_pointer x e))
    pointers_joined_sound at Whole (Address y) e f =
        let pb : IsPointer (ctype_of b) = subst IsPointer (sym (address_pointer (ctype_of b) y f)) tt in
        if_given (λ both. SoundBoth w entities both × IsPointer (ctype_of both.left)) (is_null a) Operand at (Fits (record { left = null_value (ctype_of b) a; right = b }))
        (λ null. let n = null_of (ctype_of b) a pb (proper_of w entities b k.0) in (((n.0, n.1.0), (k.0, (k.1, refl))), pb))
    pointers_joined_sound at x y e f = tt

    pointers_compared_sound : (op : Op) (place : Place) (at : ℕ) → IsComparing op → (x y : OperandSort) → operand_of (ctype_of a) ≡ x → operand_of (ctype_of b) ≡ y → Gives (SoundValue w entities) (pointers_joined at a b x y >>= (λ both. Fits (compared op place both.left both.right)))
    unfolding SoundBoth
    pointers_compared_sound op place at is x y e f =
        then_gives (λ both. SoundBoth w entities both × IsPointer (ctype_of both.left)) (SoundValue w entities) (pointers_joined at a b x y) (λ both. Fits (compared op place both.left both.right)) (pointers_joined_sound at x y e f)
        (λ both s. over_two_sound w entities op place int both.left both.right s.0.0 (s.0.1.0, s.0.1.1.0) (compares op (ctype_of both.left) (ctype_of both.right) int is (inr s.1, sym s.0.1.1.1, refl)) tt)

    equality_sound : (op : Op) (place : Place) (at : ℕ) → IsComparing op → (x y : OperandSort) → operand_of (ctype_of a) ≡ x → operand_of (ctype_of b) ≡ y → Gives (SoundValue w entities) (equality_row w op place at a b x y)
    equality_sound op place at is Whole Whole e f = comparison_sound w entities a b h k (whole_integer (ctype_of a) e) (whole_integer (ctype_of b) f) op place is
    equality_sound op place at is x y e f = pointers_compared_sound op place at is x y e f

    both_sound : (place : Place) (at : ℕ) → Gives (SoundValue w entities) (both_row place at a b)
    both_sound place at =
        if_given (SoundValue w entities) (is_scalar (operand_of (ctype_of a)) && is_scalar (operand_of (ctype_of b))) Operand at (Fits (both_core place a b))
        (λ scalars.
        let c = chosen_sound place int a (truth place b) (number_core 0 place) h (scalar_type (ctype_of a) (and_left (is_scalar (operand_of (ctype_of a))) (is_scalar (operand_of (ctype_of b))) scalars)) (truth_sound place b k (scalar_type (ctype_of b) (and_right (is_scalar (operand_of (ctype_of a))) (is_scalar (operand_of (ctype_of b))) scalars))) (number_sound 0 place refl) tt in
        (c.0, c.1.0))

    either_sound : (place : Place) (at : ℕ) → Gives (SoundValue w entities) (either_row place at a b)
    either_sound place at =
        if_given (SoundValue w entities) (is_scalar (operand_of (ctype_of a)) && is_scalar (operand_of (ctype_of b))) Operand at (Fits (either_core place a b))
        (λ scalars.
        let c = chosen_sound place int a (number_core 1 place) (truth place b) h (scalar_type (ctype_of a) (and_left (is_scalar (operand_of (ctype_of a))) (is_scalar (operand_of (ctype_of b))) scalars)) (one_sound place) (truth_sound place b k (scalar_type (ctype_of b) (and_right (is_scalar (operand_of (ctype_of a))) (is_scalar (operand_of (ctype_of b))) scalars))) tt in
        (c.0, c.1.0))

    sequence_sound : (place : Place) → SoundValue w entities (sequence place a b)
    sequence_sound place = (((h.1, (k.1, refl)), proper_of w entities b k.0, tt, (h.0, (k.0, tt))), refl)

    other_branches : (at : ℕ) (x y : OperandSort) → operand_of (ctype_of a) ≡ x → operand_of (ctype_of b) ≡ y → Gives (SoundBoth w entities) (if same_type (ctype_of a) (ctype_of b) then Fits (record { left = a; right = b }) else pointers_joined at a b x y)
    unfolding SoundBoth
    other_branches at x y e f =
        if_holds (Gives (SoundBoth w entities)) (same_type (ctype_of a) (ctype_of b)) (Fits (record { left = a; right = b })) (pointers_joined at a b x y) (λ same. (h, (k.0, (k.1, sym (type_sound (ctype_of a) (ctype_of b) same)))))
        (λ other. gives_weaker (λ both. SoundBoth w entities both × IsPointer (ctype_of both.left)) (SoundBoth w entities) (pointers_joined at a b x y) (λ both s. s.0) (pointers_joined_sound at x y e f))

    branches_sound : (at : ℕ) (x y : OperandSort) → operand_of (ctype_of a) ≡ x → operand_of (ctype_of b) ≡ y → Gives (SoundBoth w entities) (branches w at a b x y)
    unfolding SoundBoth
    branches_sound at Whole Whole e f = both_common w entities a b h k (whole_integer (ctype_of a) e) (whole_integer (ctype_of b) f)
    branches_sound at x y e f = other_branches at x y e f

  pub choice_sound : (place : Place) (at : ℕ) (c a b : Core) → SoundValue w entities c → SoundValue w entities a → SoundValue w entities b → Gives (SoundValue w entities) (choice_row w place at c a b)
  unfolding SoundBoth
  choice_sound place at c a b g h k =
      if_given (SoundValue w entities) (is_scalar (operand_of (ctype_of c))) Operand at (branches w at a b (operand_of (ctype_of a)) (operand_of (ctype_of b)) >>= (λ both. Fits (chosen place c both)))
      (λ scalar.
      then_gives (SoundBoth w entities) (SoundValue w entities) (branches w at a b (operand_of (ctype_of a)) (operand_of (ctype_of b))) (λ both. Fits (chosen place c both)) (branches_sound a b h k at (operand_of (ctype_of a)) (operand_of (ctype_of b)) refl refl)
      (λ both s.
      let x = chosen_sound place (ctype_of both.left) c both.left both.right g (scalar_type (ctype_of c) scalar) (s.0.0, (s.0.1, refl)) s.1 (proper_of w entities both.left s.0.0) in
      (x.0, x.1.0)))

  -- an operator between two values: what it may be, and its row
  pub FitsBetween : Between → Type 0
  FitsBetween (Numeric op) = IsComputing op
  FitsBetween (Shifting op) = IsShift op
  FitsBetween (Ordering op) = IsComparing op
  FitsBetween (Equating op) = IsComparing op
  FitsBetween op = ⊤

  pub between_sound : (op : Between) (place : Place) (at : ℕ) (a b : Core) → FitsBetween op → SoundValue w entities a → SoundValue w entities b → Gives (SoundValue w entities) (between w op place at a b)
  unfolding FitsBetween
  between_sound (Numeric op) place at a b is h k = numeric_sound a b h k op place at is (operand_of (ctype_of a)) (operand_of (ctype_of b)) refl refl
  between_sound (Shifting op) place at a b is h k = shift_sound a b h k op place at is (operand_of (ctype_of a)) (operand_of (ctype_of b)) refl refl
  between_sound Adding place at a b is h k = plus_sound a b h k place at (operand_of (ctype_of a)) (operand_of (ctype_of b)) refl refl
  between_sound Subtracting place at a b is h k = minus_sound a b h k place at (operand_of (ctype_of a)) (operand_of (ctype_of b)) refl refl
  between_sound (Ordering op) place at a b is h k = order_sound a b h k op place at is (operand_of (ctype_of a)) (operand_of (ctype_of b)) refl refl
  between_sound (Equating op) place at a b is h k = equality_sound a b h k op place at is (operand_of (ctype_of a)) (operand_of (ctype_of b)) refl refl
  between_sound BothTrue place at a b is h k = both_sound a b h k place at
  between_sound EitherTrue place at a b is h k = either_sound a b h k place at
  between_sound Following place at a b is h k = sequence_sound a b h k place
  between_sound NoOperator place at a b is h k = tt

  fits_if : (b : Bool) (x y : Between) → FitsBetween x → FitsBetween y → FitsBetween (if b then x else y)
  fits_if true x y h k = h
  fits_if false x y h k = k

  other_fits : (sign : ℕ) → FitsBetween (other_operator sign)
  unfolding FitsBetween IsComputing IsComparing
  other_fits sign =
      fits_if (sign == sign_equal) (Equating Equal) _ tt
      (fits_if (sign == sign_not_equal) (Equating NotEqual) _ tt
      (fits_if (sign == sign_ampersand) (Numeric And) _ tt
      (fits_if (sign == sign_caret) (Numeric Xor) _ tt
      (fits_if (sign == sign_bar) (Numeric Or) _ tt
      (fits_if (sign == sign_both) BothTrue _ tt
      (fits_if (sign == sign_either_or) EitherTrue _ tt
      (fits_if (sign == sign_comma) Following NoOperator tt tt)))))))

  pub operator_fits : (sign : ℕ) → FitsBetween (operator sign)
  unfolding FitsBetween IsComputing IsComparing IsShift
  operator_fits sign =
      fits_if (sign == sign_star) (Numeric Multiply) _ tt
      (fits_if (sign == sign_slash) (Numeric Divide) _ tt
      (fits_if (sign == sign_percent) (Numeric Remainder) _ tt
      (fits_if (sign == sign_plus) Adding _ tt
      (fits_if (sign == sign_minus) Subtracting _ tt
      (fits_if (sign == sign_shift_left) (Shifting ShiftLeft) _ tt
      (fits_if (sign == sign_shift_right) (Shifting ShiftRight) _ tt
      (fits_if (sign == sign_less) (Ordering Less) _ tt
      (fits_if (sign == sign_greater) (Ordering Greater) _ tt
      (fits_if (sign == sign_less_equal) (Ordering LessEqual) _ tt
      (fits_if (sign == sign_greater_equal) (Ordering GreaterEqual) (other_operator sign) tt (other_fits sign)))))))))))

  -- operators before their operands
  pub promoted_row_sound : (op : Op) (place : Place) (at : ℕ) (v : Core) → ((a t : Ctype) → IsPromoted a × (t ≡ a) → Unary op a t) → SoundValue w entities v → (sort : OperandSort) → operand_of (ctype_of v) ≡ sort → Gives (SoundValue w entities) (promoted_row w op place at v sort)
  promoted_row_sound op place at v row h Whole e =
      let whole : IsInteger (ctype_of v) = whole_integer (ctype_of v) e in
      let p : IsPromoted (ctype_of (promotion w v)) = promotion_promoted w entities v h whole in
      let x = promotion_value w entities v h whole in
      (((x.1, row (ctype_of (promotion w v)) (ctype_of (promotion w v)) (p, refl)), promotion_proper w entities v h whole, tt, (x.0, tt)), refl)
  promoted_row_sound op place at v row h sort e = tt

  pub not_sound : (place : Place) (at : ℕ) (v : Core) → SoundValue w entities v → Gives (SoundValue w entities) (not_row place at v)
  not_sound place at v h =
      if_given (SoundValue w entities) (is_scalar (operand_of (ctype_of v))) Operand at (Fits (over (Arith Not) place int v)) (λ scalar. (((h.1, (scalar_type (ctype_of v) scalar, refl)), tt, tt, (h.0, tt)), refl))
