-- What an operator makes of numbers of an integer type (C11 6.5.3.3, 6.5.5 to 6.5.12).
use Rattle.std.specs.Prelude.{ℕ, ◌^◌, ℤ, pos, neg_ℤ, ◌+ℤ◌, ◌-ℤ◌, ◌*ℤ◌, int_lt, int_le, int_div, int_rem}
use Rattle.std.specs.Prelude.{unsigned_abs, bit_and, bit_or, bit_xor, if◌then◌else◌, Bool, true, false, not, ◌&&◌}
use Rattle.std.specs.Prelude.{⊤, Result, Ok, Err}
use Rattle.std.specs.Int.{int_shr}
use Rattle.std.specs.Ordering.{int_eq}
use Rattle.core_tree.specs.declared.node.Op.{Op}
use Rattle.core_tree.specs.declared.node.Op.TheVariants.{Multiply, Divide, Remainder, Plus, Minus, ShiftLeft}
use Rattle.core_tree.specs.declared.node.Op.TheVariants.{ShiftRight, Less, Greater, LessEqual, GreaterEqual, Equal}
use Rattle.core_tree.specs.declared.node.Op.TheVariants.{NotEqual, And, Xor, Or, Complement, Not}
use Rattle.c_consts.specs.declared.fault.ConstFault.{ConstFault}
use Rattle.c_consts.specs.declared.fault.ConstFault.TheVariants.{NotConstant, Range, DivideByZero}
use Rattle.c_consts.specs.Wrapped.{IsHeld, low_of, wrapped, truth, is_signed_in}

-- why a node has no constant value: it isn't of a constant's form, its number is out of range, or it divides by 0
pub data Wrong : Type 0 where
  NoForm : Wrong
  OutOfRange : Wrong
  ZeroDivisor : Wrong

-- what an operator gives
pub data Step : Type 0 where
  Gives : ℤ → Step
  Breaks : Wrong → Step

abbrev pub fault_at : Wrong → ℕ → ConstFault
fault_at NoForm i = NotConstant i
fault_at OutOfRange i = Range i
fault_at ZeroDivisor i = DivideByZero i

-- what a node of that number gives
abbrev pub step_at : ℕ → Step → Result ℤ ConstFault
step_at i (Gives value) = Ok value
step_at i (Breaks wrong) = Err (fault_at wrong i)

-- a result in its type: an unsigned one wraps, a signed one must be in range
abbrev pub in_type : Bool → ℕ → ℤ → Step
in_type false half value = Gives (wrapped false half value)
in_type true half value = if is_signed_in half value then Gives value else Breaks OutOfRange

-- the bits of a number as a number from 0 on
abbrev pub bits_of : ℕ → ℤ → ℕ
bits_of half value = unsigned_abs (low_of half value)

abbrev pub unary : Op → Bool → ℕ → ℤ → Step
unary Plus signed half x = Gives x
unary Minus signed half x = in_type signed half (neg_ℤ x)
unary Complement signed half x = in_type signed half (neg_ℤ x -ℤ pos 1)
unary Not signed half x = Gives (truth (int_eq x (pos 0)))
unary op signed half x = Breaks NoForm

-- a number of bits by which a number of that width may be shifted
abbrev pub is_count : ℕ → ℤ → Bool
is_count width n = int_le (pos 0) n && int_lt n (pos width)

abbrev pub binary : Op → Bool → ℕ → ℕ → ℤ → ℤ → Step
binary Multiply signed half width x y = in_type signed half (x *ℤ y)
binary Divide signed half width x y =
    if int_eq y (pos 0) then Breaks ZeroDivisor else in_type signed half (int_div x y)
binary Remainder signed half width x y =
    if int_eq y (pos 0) then Breaks ZeroDivisor else in_type signed half (int_rem x y)
binary Plus signed half width x y = in_type signed half (x +ℤ y)
binary Minus signed half width x y = in_type signed half (x -ℤ y)
binary ShiftLeft signed half width x y =
    if is_count width y then in_type signed half (x *ℤ pos (2 ^ unsigned_abs y)) else Breaks OutOfRange
binary ShiftRight signed half width x y =
    if is_count width y then in_type signed half (int_shr x (unsigned_abs y)) else Breaks OutOfRange
binary Less signed half width x y = Gives (truth (int_lt x y))
binary Greater signed half width x y = Gives (truth (int_lt y x))
binary LessEqual signed half width x y = Gives (truth (int_le x y))
binary GreaterEqual signed half width x y = Gives (truth (int_le y x))
binary Equal signed half width x y = Gives (truth (int_eq x y))
binary NotEqual signed half width x y = Gives (truth (not (int_eq x y)))
binary And signed half width x y = Gives (wrapped signed half (pos (bit_and (bits_of half x) (bits_of half y))))
binary Xor signed half width x y = Gives (wrapped signed half (pos (bit_xor (bits_of half x) (bits_of half y))))
binary Or signed half width x y = Gives (wrapped signed half (pos (bit_or (bits_of half x) (bits_of half y))))
binary Complement signed half width x y = Breaks NoForm
binary Not signed half width x y = Breaks NoForm

-- the operand is a number of the operator's type, where the type is the operand's
abbrev pub Operand : Op → Bool → ℕ → ℤ → Type 0
Operand Plus signed half x = IsHeld signed half x
Operand Minus signed half x = IsHeld signed half x
Operand Complement signed half x = IsHeld signed half x
Operand op signed half x = ⊤

abbrev pub Operands : Op → Bool → ℕ → ℤ → ℤ → Type 0
Operands Less signed half x y = ⊤
Operands Greater signed half x y = ⊤
Operands LessEqual signed half x y = ⊤
Operands GreaterEqual signed half x y = ⊤
Operands Equal signed half x y = ⊤
Operands NotEqual signed half x y = ⊤
Operands ShiftLeft signed half x y = IsHeld signed half x
Operands ShiftRight signed half x y = IsHeld signed half x
Operands op signed half x y = IsHeld signed half x × IsHeld signed half y
