-- Operators on values (C11 6.5.3.3, 6.5.5 to 6.5.15).
use Rattle.std.specs.Prelude.{ℕ, ◌==◌, pos, Bool, true, false, ◌&&◌, not, if◌then◌else◌}
use Rattle.c_scope.specs.passed.pta_base.declared.kind.Kind.TheVariants.{Operand}
use Rattle.c_scope.specs.passed.pta_base.declared.place.Place.{Place}
use Rattle.c_inits.specs.passed.c_types.Trees.{Ctype, VoidType}
use Rattle.c_consts.specs.passed.core_tree.declared.node.Op.{Op}
use Rattle.c_consts.specs.passed.core_tree.declared.node.Op.TheVariants.{Multiply, Divide, Remainder, Plus, Minus}
use Rattle.c_consts.specs.passed.core_tree.declared.node.Op.TheVariants.{ShiftLeft, ShiftRight, Less, Greater}
use Rattle.c_consts.specs.passed.core_tree.declared.node.Op.TheVariants.{LessEqual, GreaterEqual, Equal, NotEqual}
use Rattle.c_consts.specs.passed.core_tree.declared.node.Op.TheVariants.{And, Xor, Or, Not}
use Rattle.c_consts.specs.passed.core_tree.declared.node.NodeKind.TheVariants.{Number, PointerAdd, Choose, Sequence}
use Rattle.c_consts.specs.passed.core_tree.declared.node.NodeKind.TheVariants.{Arith}
use Rattle.c_consts.specs.passed.core_tree.Rows.{int, long}
use Rattle.c_inits.specs.passed.c_grammar.Words.{sign_star, sign_slash, sign_percent, sign_plus, sign_minus}
use Rattle.c_inits.specs.passed.c_grammar.Words.{sign_shift_left, sign_shift_right, sign_less, sign_greater}
use Rattle.c_inits.specs.passed.c_grammar.Words.{sign_less_equal, sign_greater_equal, sign_equal, sign_not_equal}
use Rattle.c_inits.specs.passed.c_grammar.Words.{sign_ampersand, sign_caret, sign_bar, sign_both, sign_either_or}
use Rattle.c_inits.specs.passed.c_grammar.Words.{sign_comma}
use Rattle.c_consts.specs.Core.{Core, ctype_of, leaf, over, over_two, over_three}
use Rattle.c_senses.specs.Given.{Given, Fits, Refuses, ◌>>=◌, given_if}
use Rattle.c_senses.specs.World.{World, has_size, same_type}
use Rattle.c_senses.specs.Nulls.{is_null}
use Rattle.c_senses.specs.Conversions.{OperandSort, Whole, Address, operand_of, is_scalar, promotion, common, made}
use Rattle.c_senses.specs.Conversions.{converted, null_value, target_of, is_function_target}

-- 6.5.5 and on: both operands are promoted and converted to their common type
abbrev pub common_of : World → Core → Core → Ctype
common_of w a b = common (ctype_of (promotion w a)) (ctype_of (promotion w b))

abbrev pub in_common : World → Core → Core → Core → Core
in_common w a b x = made (common_of w a b) (promotion w x)

-- an operator whose result has the common type, and one that compares
abbrev pub arithmetic : World → Op → Place → Core → Core → Core
arithmetic w op place a b = over_two (Arith op) place (common_of w a b) (in_common w a b a) (in_common w a b b)

abbrev pub comparison : World → Op → Place → Core → Core → Core
comparison w op place a b = over_two (Arith op) place int (in_common w a b a) (in_common w a b b)

-- two whole numbers, under * / % & ^ |
abbrev pub numeric_row : World → Op → Place → ℕ → Core → Core → OperandSort → OperandSort → Given Core
numeric_row w op place at a b Whole Whole = Fits (arithmetic w op place a b)
numeric_row w op place at a b x y = Refuses Operand at

-- 6.5.7: each operand is promoted by itself
abbrev pub shifted : World → Op → Place → Core → Core → Core
shifted w op place a b = over_two (Arith op) place (ctype_of (promotion w a)) (promotion w a) (promotion w b)

abbrev pub shift_row : World → Op → Place → ℕ → Core → Core → OperandSort → OperandSort → Given Core
shift_row w op place at a b Whole Whole = Fits (shifted w op place a b)
shift_row w op place at a b x y = Refuses Operand at

-- 6.5.6: a pointer to a complete object type and an integer, which isn't promoted; the pointer comes first
abbrev pub moved : World → Bool → Place → ℕ → Core → Core → Ctype → Given Core
moved w minus place at p n to =
    given_if (has_size w to) Operand at (Fits (over_two (PointerAdd minus) place (ctype_of p) p n))

abbrev pub plus_row : World → Place → ℕ → Core → Core → OperandSort → OperandSort → Given Core
plus_row w place at a b Whole Whole = Fits (arithmetic w Plus place a b)
plus_row w place at a b (Address to) Whole = moved w false place at a b to
plus_row w place at a b Whole (Address to) = moved w false place at b a to
plus_row w place at a b x y = Refuses Operand at

-- the difference of two pointers is a long
abbrev pub difference : Place → Core → Core → Core
difference place a b = over_two (Arith Minus) place long a b

abbrev pub pointers_subtracted : Place → ℕ → Core → Core → Ctype → Ctype → Given Core
pointers_subtracted place at a b x y = given_if (same_type x y) Operand at (Fits (difference place a b))

abbrev pub minus_row : World → Place → ℕ → Core → Core → OperandSort → OperandSort → Given Core
minus_row w place at a b Whole Whole = Fits (arithmetic w Minus place a b)
minus_row w place at a b (Address to) Whole = moved w true place at a b to
minus_row w place at a b (Address x) (Address y) = pointers_subtracted place at a b x y
minus_row w place at a b x y = Refuses Operand at

-- 6.5.8: integers, or two pointers of one type
abbrev pub compared : Op → Place → Core → Core → Core
compared op place a b = over_two (Arith op) place int a b

abbrev pub pointers_compared : Op → Place → ℕ → Core → Core → Ctype → Ctype → Given Core
pointers_compared op place at a b x y = given_if (same_type x y) Operand at (Fits (compared op place a b))

abbrev pub order_row : World → Op → Place → ℕ → Core → Core → OperandSort → OperandSort → Given Core
order_row w op place at a b Whole Whole = Fits (comparison w op place a b)
order_row w op place at a b (Address x) (Address y) = pointers_compared op place at a b x y
order_row w op place at a b x y = Refuses Operand at

-- two pointers of types that differ, as operands of one type: a null constant takes the other one's type, and a
-- pointer to an object is converted to void * beside one
abbrev pub is_void : Ctype → Bool
is_void VoidType = true
is_void t = false

abbrev pub is_object : Ctype → Bool
is_object t = not (is_function_target (target_of t))

pub record Both : Type 0 where
  pub left : Core
  pub right : Core

abbrev pub joined : ℕ → Core → Core → Ctype → Ctype → Given Both
joined at a b x y =
    if same_type x y then Fits (record { left = a; right = b })
    else if is_null b then Fits (record { left = a; right = null_value (ctype_of a) b })
    else if is_null a then Fits (record { left = null_value (ctype_of b) a; right = b })
    else if is_void y && is_object x then Fits (record { left = converted (ctype_of b) a; right = b })
    else if is_void x && is_object y then Fits (record { left = a; right = converted (ctype_of a) b })
    else Refuses Operand at

-- a pointer beside an integer: the integer must be a null constant
abbrev pub null_right : ℕ → Core → Core → Given Both
null_right at a b = given_if (is_null b) Operand at (Fits (record { left = a; right = null_value (ctype_of a) b }))

abbrev pub null_left : ℕ → Core → Core → Given Both
null_left at a b = given_if (is_null a) Operand at (Fits (record { left = null_value (ctype_of b) a; right = b }))

-- pointers, or a pointer and a null constant, as operands of one type
abbrev pub pointers_joined : ℕ → Core → Core → OperandSort → OperandSort → Given Both
pointers_joined at a b (Address x) (Address y) = joined at a b x y
pointers_joined at a b (Address x) Whole = null_right at a b
pointers_joined at a b Whole (Address y) = null_left at a b
pointers_joined at a b x y = Refuses Operand at

-- 6.5.9
abbrev pub equality_row : World → Op → Place → ℕ → Core → Core → OperandSort → OperandSort → Given Core
equality_row w op place at a b Whole Whole = Fits (comparison w op place a b)
equality_row w op place at a b x y =
    pointers_joined at a b x y >>= (λ both. Fits (compared op place both.left both.right))

-- 6.5.13, 6.5.14: the right operand is evaluated only where the left one doesn't decide
abbrev pub number_core : ℕ → Place → Core
number_core n place = leaf (Number (pos n)) place int

abbrev pub truth : Place → Core → Core
truth place b = over_three Choose place int b (number_core 1 place) (number_core 0 place)

abbrev pub both_core : Place → Core → Core → Core
both_core place a b = over_three Choose place int a (truth place b) (number_core 0 place)

abbrev pub either_core : Place → Core → Core → Core
either_core place a b = over_three Choose place int a (number_core 1 place) (truth place b)

abbrev pub both_row : Place → ℕ → Core → Core → Given Core
both_row place at a b =
    given_if (is_scalar (operand_of (ctype_of a)) && is_scalar (operand_of (ctype_of b))) Operand at
    (Fits (both_core place a b))

abbrev pub either_row : Place → ℕ → Core → Core → Given Core
either_row place at a b =
    given_if (is_scalar (operand_of (ctype_of a)) && is_scalar (operand_of (ctype_of b))) Operand at
    (Fits (either_core place a b))

-- 6.5.17
abbrev pub sequence : Place → Core → Core → Core
sequence place a b = over_two Sequence place (ctype_of b) a b

-- an operator between two operands
pub data Between : Type 0 where
  Numeric : Op → Between
  Shifting : Op → Between
  Adding : Between
  Subtracting : Between
  Ordering : Op → Between
  Equating : Op → Between
  BothTrue : Between
  EitherTrue : Between
  Following : Between
  NoOperator : Between

-- the row of an operator over two values
abbrev pub between : World → Between → Place → ℕ → Core → Core → Given Core
between w (Numeric op) place at a b =
    numeric_row w op place at a b (operand_of (ctype_of a)) (operand_of (ctype_of b))
between w (Shifting op) place at a b =
    shift_row w op place at a b (operand_of (ctype_of a)) (operand_of (ctype_of b))
between w Adding place at a b = plus_row w place at a b (operand_of (ctype_of a)) (operand_of (ctype_of b))
between w Subtracting place at a b = minus_row w place at a b (operand_of (ctype_of a)) (operand_of (ctype_of b))
between w (Ordering op) place at a b =
    order_row w op place at a b (operand_of (ctype_of a)) (operand_of (ctype_of b))
between w (Equating op) place at a b =
    equality_row w op place at a b (operand_of (ctype_of a)) (operand_of (ctype_of b))
between w BothTrue place at a b = both_row place at a b
between w EitherTrue place at a b = either_row place at a b
between w Following place at a b = Fits (sequence place a b)
between w NoOperator place at a b = Refuses Operand at

-- the operator that a punctuator is between two operands
abbrev pub other_operator : ℕ → Between
other_operator sign =
    if sign == sign_equal then Equating Equal
    else if sign == sign_not_equal then Equating NotEqual
    else if sign == sign_ampersand then Numeric And
    else if sign == sign_caret then Numeric Xor
    else if sign == sign_bar then Numeric Or
    else if sign == sign_both then BothTrue
    else if sign == sign_either_or then EitherTrue
    else if sign == sign_comma then Following
    else NoOperator

abbrev pub operator : ℕ → Between
operator sign =
    if sign == sign_star then Numeric Multiply
    else if sign == sign_slash then Numeric Divide
    else if sign == sign_percent then Numeric Remainder
    else if sign == sign_plus then Adding
    else if sign == sign_minus then Subtracting
    else if sign == sign_shift_left then Shifting ShiftLeft
    else if sign == sign_shift_right then Shifting ShiftRight
    else if sign == sign_less then Ordering Less
    else if sign == sign_greater then Ordering Greater
    else if sign == sign_less_equal then Ordering LessEqual
    else if sign == sign_greater_equal then Ordering GreaterEqual
    else other_operator sign

-- 6.5.3.3: an operator before its operand
abbrev pub promoted_core : World → Op → Place → Core → Core
promoted_core w op place v = over (Arith op) place (ctype_of (promotion w v)) (promotion w v)

abbrev pub promoted_row : World → Op → Place → ℕ → Core → OperandSort → Given Core
promoted_row w op place at v Whole = Fits (promoted_core w op place v)
promoted_row w op place at v x = Refuses Operand at

abbrev pub not_row : Place → ℕ → Core → Given Core
not_row place at v = given_if (is_scalar (operand_of (ctype_of v))) Operand at (Fits (over (Arith Not) place int v))

-- 6.5.15, over three values
abbrev pub chosen : Place → Core → Both → Core
chosen place c both = over_three Choose place (ctype_of both.left) c both.left both.right

abbrev pub branches : World → ℕ → Core → Core → OperandSort → OperandSort → Given Both
branches w at a b Whole Whole = Fits (record { left = in_common w a b a; right = in_common w a b b })
branches w at a b x y =
    if same_type (ctype_of a) (ctype_of b) then Fits (record { left = a; right = b })
    else pointers_joined at a b x y

abbrev pub choice_row : World → Place → ℕ → Core → Core → Core → Given Core
choice_row w place at c a b =
    given_if (is_scalar (operand_of (ctype_of c))) Operand at
    (branches w at a b (operand_of (ctype_of a)) (operand_of (ctype_of b)) >>= (λ both. Fits (chosen place c both)))
