-- Worked expressions as trees, against C11 and gcc: the definition computes their values.
use Rattle.std.proofs.Common.{◌≡◌, ℤ, pos, negsuc, true, false, [], ◌∷◌, refl}
use Rattle.core_tree.specs.PassedOn.{Place}
use Rattle.c_types.specs.Trees.{Ctype, BoolType, IntegerType, PointerTo}
use Rattle.core_tree.specs.declared.node.NodeKind.TheVariants.{Named, Number, NullValue, Fetch, Choose, Convert, Arith}
use Rattle.core_tree.specs.declared.node.Op.TheVariants.{Divide, Remainder, Plus, Minus, ShiftLeft, ShiftRight, And, Xor, Or, Complement}
use Rattle.c_consts.specs.Core.{Core, leaf, over, over_two, over_three}
use Rattle.c_consts.specs.Operators.{NoForm, OutOfRange, ZeroDivisor}
use Rattle.c_consts.specs.Answer.{Value, Fails, constant_of}

abbrev here : Place
here = record { unit = 0; line = 1; column = 1 }

abbrev int : Ctype
int = IntegerType 4 4 true

abbrev unsigned : Ctype
unsigned = IntegerType 4 4 false

abbrev number : ℤ → Core
number n = leaf (Number n) here int

abbrev variable : Core
variable = over Fetch here int (leaf (Named 0) here int)

abbrev one : Core
one = number (pos 1)

abbrev nought : Core
nought = number (pos 0)

-- 1 << 31
shifted_out : constant_of (over_two (Arith ShiftLeft) here int one (number (pos 31))) ≡ Fails OutOfRange []
shifted_out = refl

-- 1 / 0
by_zero : constant_of (over_two (Arith Divide) here int one nought) ≡ Fails ZeroDivisor []
by_zero = refl

-- -2147483647 - 1
least : constant_of (over_two (Arith Minus) here int (over (Arith Minus) here int (number (pos 2147483647))) one) ≡ Value (negsuc 2147483647)
least = refl

-- (-2147483647 - 1) % -1 and (-2147483647 - 1) / -1
rest_of_least : constant_of (over_two (Arith Remainder) here int (number (negsuc 2147483647)) (number (negsuc 0))) ≡ Value (pos 0)
rest_of_least = refl

quotient_of_least : constant_of (over_two (Arith Divide) here int (number (negsuc 2147483647)) (number (negsuc 0))) ≡ Fails OutOfRange []
quotient_of_least = refl

-- 0 ? 1 / 0 : 2
not_evaluated : constant_of (over_three Choose here int nought (over_two (Arith Divide) here int one nought) (number (pos 2))) ≡ Value (pos 2)
not_evaluated = refl

-- 1 || n: n is the condition of the inner choice, which is the third operand of the outer one
form_of_all : constant_of (over_three Choose here int one one (over_three Choose here int variable one nought)) ≡ Fails NoForm (2 ∷ 0 ∷ [])
form_of_all = refl

-- -1 << 1 and -5 >> 1
left_of_negative : constant_of (over_two (Arith ShiftLeft) here int (number (negsuc 0)) one) ≡ Value (negsuc 1)
left_of_negative = refl

right_of_negative : constant_of (over_two (Arith ShiftRight) here int (number (negsuc 4)) one) ≡ Value (negsuc 2)
right_of_negative = refl

-- 4294967295u + 1u and ~0u
wraps : constant_of (over_two (Arith Plus) here unsigned (leaf (Number (pos 4294967295)) here unsigned) (leaf (Number (pos 1)) here unsigned)) ≡ Value (pos 0)
wraps = refl

all_bits : constant_of (over (Arith Complement) here unsigned (leaf (Number (pos 0)) here unsigned)) ≡ Value (pos 4294967295)
all_bits = refl

-- -6 & 3, -6 | 3, -6 ^ 3
bits_of_negative : constant_of (over_two (Arith And) here int (number (negsuc 5)) (number (pos 3))) ≡ Value (pos 2)
bits_of_negative = refl

either_of_negative : constant_of (over_two (Arith Or) here int (number (negsuc 5)) (number (pos 3))) ≡ Value (negsuc 4)
either_of_negative = refl

one_of_negative : constant_of (over_two (Arith Xor) here int (number (negsuc 5)) (number (pos 3))) ≡ Value (negsuc 6)
one_of_negative = refl

-- (signed char) 200, (_Bool) 256
as_signed_char : constant_of (over Convert here (IntegerType 1 2 true) (number (pos 200))) ≡ Value (negsuc 55)
as_signed_char = refl

as_bool : constant_of (over Convert here BoolType (number (pos 256))) ≡ Value (pos 1)
as_bool = refl

-- (int) p, and p itself
no_pointer : constant_of (over Convert here int (leaf NullValue here (PointerTo int))) ≡ Fails NoForm (0 ∷ [])
no_pointer = refl

-- the first fault in order decides: 1 / 0 + (1 << 31)
first_fault : constant_of (over_two (Arith Plus) here int (over_two (Arith Divide) here int one nought) (over_two (Arith ShiftLeft) here int one (number (pos 31)))) ≡ Fails ZeroDivisor (0 ∷ [])
first_fault = refl
