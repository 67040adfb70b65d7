-- The value of an integer constant expression (C11 6.6), on the expression's tree.
use Rattle.std.specs.Prelude.{ℕ, ℤ, pos, List, [], ◌∷◌, Bool, true, false, not, ◌&&◌, if◌then◌else◌, Result, Ok}
use Rattle.std.specs.Prelude.{Err}
use Rattle.std.specs.Ordering.{int_eq}
use Rattle.c_types.specs.Trees.{Ctype, BoolType, IntegerType}
use Rattle.core_tree.specs.declared.node.Node.{Node}
use Rattle.core_tree.specs.declared.node.Op.{Op}
use Rattle.core_tree.specs.declared.node.NodeKind.{NodeKind}
use Rattle.core_tree.specs.declared.node.NodeKind.TheVariants.{Number, Choose, Convert, Arith}
use Rattle.core_tree.specs.Typed.{half_of}
use Rattle.c_consts.specs.declared.fault.ConstFault.{ConstFault}
use Rattle.c_consts.specs.Core.{Core, Cores, Of, NoCores, MoreCores, number_at}
use Rattle.c_consts.specs.Wrapped.{width_of, converted}
use Rattle.c_consts.specs.Operators.{Wrong, NoForm, Step, Gives, Breaks, fault_at, unary, binary}

-- what is found at a node: its value, or the first node in order that is wrong, by the way down to it
pub data Found : Type 0 where
  Value : ℤ → Found
  Fails : Wrong → List ℕ → Found

abbrev pub found_here : Step → Found
found_here (Gives value) = Value value
found_here (Breaks wrong) = Fails wrong []

-- what is found at operand k goes before the rest
abbrev pub after : ℕ → Found → (ℤ → Found) → Found
after k (Fails wrong path) rest = Fails wrong (k ∷ path)
after k (Value value) rest = rest value

-- how a node may have a constant's value
pub data Form : Type 0 where
  Written : ℤ → Form
  Operated : Op → Form
  Chosen : Form
  Converted : Form
  Formless : Form

abbrev pub of_integer : Ctype → Form → Form
of_integer BoolType form = form
of_integer (IntegerType size rank signed) form = form
of_integer type form = Formless

abbrev pub form_of : NodeKind → Ctype → Form
form_of (Number n) type = Written n
form_of (Arith op) type = of_integer type (Operated op)
form_of Choose type = of_integer type Chosen
form_of Convert type = of_integer type Converted
form_of kind type = Formless

abbrev pub unary_in : Op → Ctype → ℤ → Step
unary_in op (IntegerType size rank signed) x = unary op signed (half_of size) x
unary_in op type x = Breaks NoForm

abbrev pub binary_in : Op → Ctype → ℤ → ℤ → Step
binary_in op (IntegerType size rank signed) x y = binary op signed (half_of size) (width_of size) x y
binary_in op type x y = Breaks NoForm

-- a value where it is asked for; where the form alone is, 0 stands for it
abbrev pub asked : Bool → Step → Found
asked true step = found_here step
asked false step = Value (pos 0)

abbrev pub is_zero : ℤ → Bool
is_zero x = int_eq x (pos 0)

-- a node whose first operand has that value, over what is found at its other operands
abbrev pub rest_of : Form → Ctype → Bool → ℤ → List (Bool → Found) → Found
rest_of (Operated op) type live x [] = asked live (unary_in op type x)
rest_of (Operated op) type live x (b ∷ []) = after 1 (b live) (λ y. asked live (binary_in op type x y))
rest_of Chosen type live x (a ∷ b ∷ []) =
    after 1 (a (live && not (is_zero x)))
    (λ y. after 2 (b (live && is_zero x)) (λ z. Value (if is_zero x then z else y)))
rest_of Converted type live x [] = asked live (Gives (converted type x))
rest_of form type live x operands = Fails NoForm []

-- a node over what is found at its operands, each asked for its value (true) or for its form alone (false)
abbrev pub answer_of : Form → Ctype → Bool → List (Bool → Found) → Found
answer_of (Written n) type live operands = Value n
answer_of Formless type live operands = Fails NoForm []
answer_of form type live [] = Fails NoForm []
answer_of form type live (a ∷ rest) = after 0 (a live) (λ x. rest_of form type live x rest)

-- what is found at a tree, asked for its value or for its form alone
abbrev mutual
  pub answer : Core → Bool → Found
  answer (Of kind place type under) live = answer_of (form_of kind type) type live (answers under)

  pub answers : Cores → List (Bool → Found)
  answers NoCores = []
  answers (MoreCores c rest) = answer c ∷ answers rest

-- the value of a constant, or what is wrong with it first
abbrev pub constant_of : Core → Found
constant_of c = answer c true

-- the same at a node, with the number of the node that is wrong
abbrev pub located : List Node → ℕ → Found → Result ℤ ConstFault
located nodes i (Value value) = Ok value
located nodes i (Fails wrong path) = Err (fault_at wrong (number_at nodes i path))
