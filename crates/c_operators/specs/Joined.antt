-- Pointers as operands of one type, as far as it is built: whether an integer that is computed is a null constant
-- isn't told yet (C11 6.3.2.3p3, 6.5.9, 6.5.15).
use Rattle.std.specs.Prelude.{ℕ, pos, Bool, ◌&&◌, Option, Some, None, if◌then◌else◌}
use Rattle.std.specs.Ordering.{int_eq}
use Rattle.pta_base.specs.declared.kind.Kind.TheVariants.{Operand, NotBuilt}
use Rattle.c_types.specs.Trees.{Ctype}
use Rattle.c_consts.specs.Core.{Core, kind_of, ctype_of}
use Rattle.c_consts.specs.Answer.{Form, Written, Formless, form_of}
use Rattle.c_senses.specs.Given.{Given, Fits, Refuses, given_if}
use Rattle.c_senses.specs.World.{same_type}
use Rattle.c_senses.specs.Nulls.{is_null_pointer}
use Rattle.c_senses.specs.Conversions.{OperandSort, Whole, Address, null_value, converted}
use Rattle.c_senses.specs.Operators.{Both, is_void, is_object}

-- whether a value is a null constant, where no operator, choice or conversion has to be computed for it
abbrev pub null_by : Form → Bool → Option Bool
null_by (Written n) pointer = Some (int_eq n (pos 0))
null_by Formless pointer = Some pointer
null_by form pointer = None

abbrev pub null_known : Core → Option Bool
null_known c = null_by (form_of (kind_of c) (ctype_of c)) (is_null_pointer (kind_of c) (ctype_of c))

-- what is known decides; else the row isn't built
abbrev pub given_known : {A : Type 0} → Option Bool → ℕ → (Bool → Given A) → Given A
given_known None at f = Refuses NotBuilt at
given_known (Some null) at f = f null

abbrev pub pair : Core → Core → Both
pair a b = record { left = a; right = b }

-- two pointers of types that differ, neither of which is a null constant
abbrev pub void_joined : ℕ → Core → Core → Ctype → Ctype → Given Both
void_joined at a b x y =
    if is_void y && is_object x then Fits (pair (converted (ctype_of b) a) b)
    else if is_void x && is_object y then Fits (pair a (converted (ctype_of a) b))
    else Refuses Operand at

abbrev pub left_joined : ℕ → Core → Core → Ctype → Ctype → Bool → Given Both
left_joined at a b x y null = if null then Fits (pair (null_value (ctype_of b) a) b) else void_joined at a b x y

abbrev pub right_joined : ℕ → Core → Core → Ctype → Ctype → Bool → Given Both
right_joined at a b x y null =
    if null then Fits (pair a (null_value (ctype_of a) b))
    else given_known (null_known a) at (left_joined at a b x y)

abbrev pub apart_joined : ℕ → Core → Core → Ctype → Ctype → Given Both
apart_joined at a b x y = given_known (null_known b) at (right_joined at a b x y)

-- pointers to those two types
abbrev pub built_joined : ℕ → Core → Core → Ctype → Ctype → Given Both
built_joined at a b x y = if same_type x y then Fits (pair a b) else apart_joined at a b x y

-- a pointer beside an integer, which must be a null constant
abbrev pub built_null_right : ℕ → Core → Core → Given Both
built_null_right at a b =
    given_known (null_known b) at (λ null. given_if null Operand at (Fits (pair a (null_value (ctype_of a) b))))

abbrev pub built_null_left : ℕ → Core → Core → Given Both
built_null_left at a b =
    given_known (null_known a) at (λ null. given_if null Operand at (Fits (pair (null_value (ctype_of b) a) b)))

abbrev pub built_pointers_joined : ℕ → Core → Core → OperandSort → OperandSort → Given Both
built_pointers_joined at a b (Address x) (Address y) = built_joined at a b x y
built_pointers_joined at a b (Address x) Whole = built_null_right at a b
built_pointers_joined at a b Whole (Address y) = built_null_left at a b
built_pointers_joined at a b x y = Refuses Operand at
