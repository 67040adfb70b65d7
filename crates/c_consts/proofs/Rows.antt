-- What the rows of nodes tell.
use Rattle.std.proofs.Common.{◌≡◌, ℕ, ℤ, Bool, true, false, List, [], ◌∷◌, Option, Some, None, Ok, ◌⊎◌, inl, inr, slice_get, refl, sym, subst}
use Rattle.c_types.specs.Trees.{Ctype, VoidType, BoolType, IntegerType, FloatingType, VaListType, PointerTo, ArrayOf, FunctionFrom, StructureOf, UnionOf}
use Rattle.c_types.specs.Table.{Table, type_of}
use Rattle.core_tree.specs.declared.node.Node.{Node}
use Rattle.core_tree.specs.declared.node.Op.{Op}
use Rattle.core_tree.specs.declared.node.Op.TheVariants.{Multiply, Divide, Remainder, Plus, Minus, ShiftLeft, ShiftRight, Less, Greater, LessEqual, GreaterEqual, Equal, NotEqual, And, Xor, Or, Complement, Not}
use Rattle.core_tree.specs.declared.node.NodeKind.{NodeKind}
use Rattle.core_tree.specs.declared.node.NodeKind.TheVariants.{Number, Choose, Convert, Arith}
use Rattle.core_tree.specs.Typed.{CoreTrees, IsInteger, Holds, type_at, half_of}
use Rattle.core_tree.specs.Rows.{RowOf, Unary, Binary}
use Rattle.core_tree.specs.Range.{here}
use Rattle.c_consts.specs.Nodes.{AreRowsUnder, IsConstantKind, bare}
use Rattle.c_consts.specs.Wrapped.{IsHeld}
use Rattle.c_consts.specs.Answer.{Form, of_integer}
use Rattle.c_consts.specs.Spine.{OperandIn, OperandsIn, HeldAt, last_by, last_in, operand_of}

-- a number that a type holds is one of its numbers
held_in : (size rank : ℕ) (signed : Bool) (x : ℤ) → Holds (IntegerType size rank signed) x → IsHeld signed (half_of size) x
held_in size rank true x h = h
held_in size rank false x h = h

pub operand_held : (op : Op) (from t : Ctype) (x : ℤ) → Unary op from t → Holds from x → OperandIn op t x
operand_held Plus (IntegerType size rank signed) t x (promoted, e) h = subst (λ (q : Ctype). OperandIn Plus q x) (sym e) (held_in size rank signed x h)
operand_held Plus from t x row h = absurd row.0
operand_held Minus (IntegerType size rank signed) t x (promoted, e) h = subst (λ (q : Ctype). OperandIn Minus q x) (sym e) (held_in size rank signed x h)
operand_held Minus from t x row h = absurd row.0
operand_held Complement (IntegerType size rank signed) t x (promoted, e) h = subst (λ (q : Ctype). OperandIn Complement q x) (sym e) (held_in size rank signed x h)
operand_held Complement from t x row h = absurd row.0
operand_held Not from t x row h = subst (λ (q : Ctype). OperandIn Not q x) (sym row.1) tt
operand_held op from t x row h = absurd row

pub operands_held : (op : Op) (from other t : Ctype) (x y : ℤ) → Binary op from other t → Holds from x → Holds other y → OperandsIn op t x y
operands_held Minus (PointerTo a) other t x y row h k = absurd h
operands_held Multiply (IntegerType size rank signed) other t x y (promoted, e, f) h k =
    subst (λ (q : Ctype). OperandsIn Multiply q x y) (sym f) (held_in size rank signed x h, held_in size rank signed y (subst (λ (q : Ctype). Holds q y) (sym e) k))
operands_held Multiply from other t x y row h k = absurd row.0
operands_held Divide (IntegerType size rank signed) other t x y (promoted, e, f) h k =
    subst (λ (q : Ctype). OperandsIn Divide q x y) (sym f) (held_in size rank signed x h, held_in size rank signed y (subst (λ (q : Ctype). Holds q y) (sym e) k))
operands_held Divide from other t x y row h k = absurd row.0
operands_held Remainder (IntegerType size rank signed) other t x y (promoted, e, f) h k =
    subst (λ (q : Ctype). OperandsIn Remainder q x y) (sym f) (held_in size rank signed x h, held_in size rank signed y (subst (λ (q : Ctype). Holds q y) (sym e) k))
operands_held Remainder from other t x y row h k = absurd row.0
operands_held Plus (IntegerType size rank signed) other t x y (promoted, e, f) h k =
    subst (λ (q : Ctype). OperandsIn Plus q x y) (sym f) (held_in size rank signed x h, held_in size rank signed y (subst (λ (q : Ctype). Holds q y) (sym e) k))
operands_held Plus from other t x y row h k = absurd row.0
operands_held Minus (IntegerType size rank signed) other t x y (promoted, e, f) h k =
    subst (λ (q : Ctype). OperandsIn Minus q x y) (sym f) (held_in size rank signed x h, held_in size rank signed y (subst (λ (q : Ctype). Holds q y) (sym e) k))
operands_held Minus from other t x y row h k = absurd row.0
operands_held And (IntegerType size rank signed) other t x y (promoted, e, f) h k =
    subst (λ (q : Ctype). OperandsIn And q x y) (sym f) (held_in size rank signed x h, held_in size rank signed y (subst (λ (q : Ctype). Holds q y) (sym e) k))
operands_held And from other t x y row h k = absurd row.0
operands_held Xor (IntegerType size rank signed) other t x y (promoted, e, f) h k =
    subst (λ (q : Ctype). OperandsIn Xor q x y) (sym f) (held_in size rank signed x h, held_in size rank signed y (subst (λ (q : Ctype). Holds q y) (sym e) k))
operands_held Xor from other t x y row h k = absurd row.0
operands_held Or (IntegerType size rank signed) other t x y (promoted, e, f) h k =
    subst (λ (q : Ctype). OperandsIn Or q x y) (sym f) (held_in size rank signed x h, held_in size rank signed y (subst (λ (q : Ctype). Holds q y) (sym e) k))
operands_held Or from other t x y row h k = absurd row.0
operands_held ShiftLeft (IntegerType size rank signed) other t x y (promoted, q, f) h k = subst (λ (q : Ctype). OperandsIn ShiftLeft q x y) (sym f) (held_in size rank signed x h)
operands_held ShiftLeft from other t x y row h k = absurd row.0
operands_held ShiftRight (IntegerType size rank signed) other t x y (promoted, q, f) h k = subst (λ (q : Ctype). OperandsIn ShiftRight q x y) (sym f) (held_in size rank signed x h)
operands_held ShiftRight from other t x y row h k = absurd row.0
operands_held Less from other t x y row h k = subst (λ (q : Ctype). OperandsIn Less q x y) (sym row.2) tt
operands_held Greater from other t x y row h k = subst (λ (q : Ctype). OperandsIn Greater q x y) (sym row.2) tt
operands_held LessEqual from other t x y row h k = subst (λ (q : Ctype). OperandsIn LessEqual q x y) (sym row.2) tt
operands_held GreaterEqual from other t x y row h k = subst (λ (q : Ctype). OperandsIn GreaterEqual q x y) (sym row.2) tt
operands_held Equal from other t x y row h k = subst (λ (q : Ctype). OperandsIn Equal q x y) (sym row.2) tt
operands_held NotEqual from other t x y row h k = subst (λ (q : Ctype). OperandsIn NotEqual q x y) (sym row.2) tt
operands_held Complement from other t x y row h k = absurd row
operands_held Not from other t x y row h k = absurd row

-- the operands of an operator are one or two, of a choice three, of a conversion one
pub arith_children : (u : CoreTrees) (op : Op) (t : Ctype) (children : List ℕ) → RowOf u (Arith op) t children → ((a : ℕ) × (children ≡ a ∷ []) × Unary op (type_at u a) t) ⊎ ((a : ℕ) × (b : ℕ) × (children ≡ a ∷ b ∷ []) × Binary op (type_at u a) (type_at u b) t)
arith_children u op t [] row = absurd row
arith_children u op t (a ∷ []) row = inl (a, refl, row.1)
arith_children u op t (a ∷ b ∷ []) row = inr (a, b, refl, row.2)
arith_children u op t (a ∷ b ∷ c ∷ more) row = absurd row

pub choice_children : (u : CoreTrees) (t : Ctype) (children : List ℕ) → RowOf u Choose t children → (c : ℕ) × (a : ℕ) × (b : ℕ) × (children ≡ c ∷ a ∷ b ∷ []) × (type_at u a ≡ t) × (type_at u b ≡ t)
choice_children u t [] row = absurd row
choice_children u t (c ∷ []) row = absurd row
choice_children u t (c ∷ a ∷ []) row = absurd row
choice_children u t (c ∷ a ∷ b ∷ []) row = (c, a, b, refl, row.1.1, row.2.1)
choice_children u t (c ∷ a ∷ b ∷ d ∷ more) row = absurd row

pub convert_child : (u : CoreTrees) (t : Ctype) (children : List ℕ) → RowOf u Convert t children → (a : ℕ) × (children ≡ a ∷ [])
convert_child u t [] row = absurd row
convert_child u t (a ∷ []) row = (a, refl)
convert_child u t (a ∷ b ∷ more) row = absurd row

pub number_held : (u : CoreTrees) (n : ℤ) (t : Ctype) (children : List ℕ) → RowOf u (Number n) t children → Holds t n
number_held u n t [] row = row
number_held u n t (a ∷ more) row = absurd row

-- a node whose kind has a first operand is of an integer type
pub integer_first : (form : Form) (t : Ctype) (children : List ℕ) (a : ℕ) → operand_of (of_integer t form) children ≡ Some a → IsInteger t
integer_first form BoolType children a e = tt
integer_first form (IntegerType size rank signed) children a e = tt
integer_first form VoidType children a e = cc
integer_first form FloatingType children a e = cc
integer_first form VaListType children a e = cc
integer_first form (PointerTo to) children a e = cc
integer_first form (ArrayOf of n) children a e = cc
integer_first form (FunctionFrom r ps f) children a e = cc
integer_first form (StructureOf tag) children a e = cc
integer_first form (UnionOf tag) children a e = cc

-- the number of a node that is one is in its type
number_by : (types : Table) (nodes : List Node) (i : ℕ) (node : Node) → AreRowsUnder types nodes i → slice_get nodes i ≡ Some node → (kind : NodeKind) → node.kind ≡ kind → (x : ℤ) → last_by i kind ≡ Ok x → Holds (type_of types node.ty.0) x
number_by types nodes i node rows at (Number n) k x e =
    let row = rows.rows i node here at (subst (λ (q : NodeKind). IsConstantKind q) (sym k) tt) in
    let held = number_held (bare types nodes) n (type_of types node.ty.0) node.children (subst (λ (q : NodeKind). RowOf (bare types nodes) q (type_of types node.ty.0) node.children) k row) in
    let same : n ≡ x = cc in
    subst (λ (q : ℤ). Holds (type_of types node.ty.0) q) same held
number_by types nodes i node rows at kind k x e = cc

last_held_in : (types : Table) (nodes : List Node) (i : ℕ) (o : Option Node) → AreRowsUnder types nodes i → slice_get nodes i ≡ o → (x : ℤ) → last_in i o ≡ Ok x → HeldAt types nodes i x
last_held_in types nodes i None rows at x e = cc
last_held_in types nodes i (Some node) rows at x e = rw at (number_by types nodes i node rows at node.kind refl x e)

pub last_held : (types : Table) (nodes : List Node) (i : ℕ) → AreRowsUnder types nodes i → (x : ℤ) → last_in i (slice_get nodes i) ≡ Ok x → HeldAt types nodes i x
last_held types nodes i rows x e = last_held_in types nodes i (slice_get nodes i) rows refl x e

-- the branches of a choice have its type
pub branch_held : (types : Table) (nodes : List Node) (i c a b : ℕ) (node : Node) → AreRowsUnder types nodes i → slice_get nodes i ≡ Some node → node.kind ≡ Choose → node.children ≡ c ∷ a ∷ b ∷ [] → ((x : ℤ) → HeldAt types nodes a x → HeldAt types nodes i x) × ((x : ℤ) → HeldAt types nodes b x → HeldAt types nodes i x)
branch_held types nodes i c a b node rows at k children =
    let row = rows.rows i node here at (subst (λ (q : NodeKind). IsConstantKind q) (sym k) tt) in
    let (c', a', b', e, s, t) = choice_children (bare types nodes) (type_of types node.ty.0) node.children (subst (λ (q : NodeKind). RowOf (bare types nodes) q (type_of types node.ty.0) node.children) k row) in
    let one : a' ≡ a = cc in
    let other : b' ≡ b = cc in
    let first : type_at (bare types nodes) a ≡ type_of types node.ty.0 = subst (λ (q : ℕ). type_at (bare types nodes) q ≡ type_of types node.ty.0) one s in
    let second : type_at (bare types nodes) b ≡ type_of types node.ty.0 = subst (λ (q : ℕ). type_at (bare types nodes) q ≡ type_of types node.ty.0) other t in
    (λ x h. rw at (subst (λ (q : Ctype). Holds q x) first h), λ x h. rw at (subst (λ (q : Ctype). Holds q x) second h))
