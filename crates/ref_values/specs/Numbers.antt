-- What an operator makes of numbers (C11 6.3.1, 6.5.3.3, 6.5.5 to 6.5.14). A result that isn't defined stops the
-- machine.
use Rattle.std.specs.Prelude.{ℕ, ◌==◌, nat_lt, ℤ, pos, int_lt, ◌&&◌, ◌||◌, not, if◌then◌else◌, Bool, true, false}
use Rattle.std.specs.Prelude.{Option, Some, None, Result, Ok, Err}
use Rattle.c_types.specs.Trees.{Ctype, BoolType, IntegerType}
use Rattle.type_rules.specs.Kinds.{int}
use Rattle.type_rules.specs.Numbers.{half_of}
use Rattle.core_tree.specs.declared.node.Op.{Op}
use Rattle.core_tree.specs.declared.node.Op.TheVariants.{ShiftLeft, ShiftRight, Less, Greater, LessEqual}
use Rattle.core_tree.specs.declared.node.Op.TheVariants.{GreaterEqual, Equal, NotEqual}
use Rattle.c_consts.specs.Wrapped.{width_of}
use Rattle.c_consts.specs.Operators.{Step, Gives, Breaks, NoForm, OutOfRange, ZeroDivisor, Wrong, unary, binary}
use Rattle.ref_cells.specs.declared.cells.Reason.{Reason}
use Rattle.ref_cells.specs.declared.cells.Reason.TheVariants.{Overflow, DivideByZero, Mismatch}
use Rattle.ref_cells.specs.Numbers.{converted}
use Rattle.ref_values.specs.declared.numbers.Numbers.{Numbers}
use Rattle.ref_values.specs.declared.numbers.Numbers.TheVariants.{Truths, Wholes}

-- the type of such numbers
abbrev pub type_of_numbers : Numbers → Ctype
type_of_numbers Truths = BoolType
type_of_numbers (Wholes size rank signed) = IntegerType size rank signed

abbrev pub reason_of : Wrong → Reason
reason_of NoForm = Mismatch
reason_of OutOfRange = Overflow
reason_of ZeroDivisor = DivideByZero

abbrev pub outcome : Step → Result ℤ Reason
outcome (Gives value) = Ok value
outcome (Breaks wrong) = Err (reason_of wrong)

-- the operators that compare
abbrev pub compares : Op → Bool
compares Less = true
compares Greater = true
compares LessEqual = true
compares GreaterEqual = true
compares Equal = true
compares NotEqual = true
compares op = false

abbrev pub shifts : Op → Bool
shifts ShiftLeft = true
shifts ShiftRight = true
shifts op = false

-- the left operand as it is computed with: a number of the type; a comparison takes it as it is
abbrev pub left_operand : Op → Ctype → ℤ → ℤ
left_operand op t x = if compares op then x else converted t x

-- the right one: a count of bits is taken as it is too
abbrev pub right_operand : Op → Ctype → ℤ → ℤ
right_operand op t y = if compares op || shifts op then y else converted t y

-- a negative number isn't shifted to the left
abbrev pub is_lost : Op → ℤ → Bool
is_lost ShiftLeft x = int_lt x (pos 0)
is_lost op x = false

abbrev pub two_in : Op → ℕ → Bool → ℤ → ℤ → Result ℤ Reason
two_in op size signed x y =
    if is_lost op x then Err Overflow else outcome (binary op signed (half_of size) (width_of size) x y)

-- an operator over two numbers, of which the left one has that type
abbrev pub over_two : Op → Ctype → ℤ → ℤ → Result ℤ Reason
over_two op (IntegerType size rank signed) x y =
    two_in op size signed (left_operand op (IntegerType size rank signed) x)
    (right_operand op (IntegerType size rank signed) y)
over_two op t x y = Err Mismatch

-- an operator over one number of that type
abbrev pub over_one : Op → Ctype → ℤ → Result ℤ Reason
over_one op (IntegerType size rank signed) x =
    outcome (unary op signed (half_of size) (converted (IntegerType size rank signed) x))
over_one op t x = Err Mismatch

-- a width below that of int
abbrev pub is_narrow : Option ℕ → Bool
is_narrow None = false
is_narrow (Some bits) = nat_lt bits 32

-- 6.3.1.1p2: what an integer is promoted to, where it is read from a place of that width
abbrev pub promoted : Ctype → Bool → Ctype
promoted (IntegerType size rank signed) narrow =
    if nat_lt size 4 || ((size == 4) && (not signed && narrow)) then int else IntegerType size rank signed
promoted BoolType narrow = int
promoted t narrow = t

-- 6.3.1.8: the common type of two promoted integers
abbrev pub common_integers : ℕ → ℕ → Bool → ℕ → ℕ → Bool → Ctype
common_integers size rank true other r true =
    if nat_lt rank r then IntegerType other r true else IntegerType size rank true
common_integers size rank false other r false =
    if nat_lt rank r then IntegerType other r false else IntegerType size rank false
common_integers size rank false other r true =
    if nat_lt rank r
    then (if nat_lt size other then IntegerType other r true else IntegerType other r false)
    else IntegerType size rank false
common_integers size rank true other r false =
    if nat_lt r rank
    then (if nat_lt other size then IntegerType size rank true else IntegerType size rank false)
    else IntegerType other r false

abbrev pub common : Ctype → Ctype → Ctype
common (IntegerType size rank signed) (IntegerType other r sign) = common_integers size rank signed other r sign
common a b = a

-- the type in which `p op= v` computes: a shift in the promoted place's, else in the common one
abbrev pub update_type : Op → Ctype → Ctype → Ctype
update_type op place value = if shifts op then place else common place value
