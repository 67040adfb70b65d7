-- The parts of a node over its operands.
use Rattle.std.proofs.Common.{arith, ◌≡◌, ◌<◌, ℕ, zero, suc, ℤ, Bool, true, false, List, [], ◌∷◌, Some, Result, Ok, Err, ◌⊎◌, inl, inr, IfOk, All, slice_get, get_or, length, refl, sym, ap, ◌∙◌, subst}
use Rattle.std.proofs.lemmas.List.Elements.{All-head, All-tail}
use Rattle.c_types.specs.Trees.{Ctype}
use Rattle.c_types.specs.Table.{Table, type_of}
use Rattle.core_tree.specs.declared.node.Node.{Node}
use Rattle.core_tree.specs.declared.node.Op.{Op}
use Rattle.core_tree.specs.declared.node.NodeKind.{NodeKind}
use Rattle.core_tree.specs.declared.node.NodeKind.TheVariants.{Choose, Convert, Arith}
use Rattle.core_tree.specs.Typed.{Holds, IsInteger, type_at}
use Rattle.core_tree.specs.Rows.{RowOf, Unary, Binary}
use Rattle.c_consts.specs.declared.fault.ConstFault.{ConstFault}
use Rattle.core_tree.specs.Range.{here}
use Rattle.c_consts.specs.Nodes.{AreRowsUnder, IsConstantKind, bare}
use Rattle.c_consts.specs.Operators.{Gives}
use Rattle.c_consts.specs.Spine.{HeldAt, OperandIn, OperandsIn, StartsWith, HasOne, HasTwo, HasThree, IsOfKind, asked_at, first_in, operand_of}
use Rattle.c_consts.specs.Answer.{Form, form_of, of_integer}
use Rattle.c_consts.proofs.Trees.{some_inj}
use Rattle.c_consts.proofs.Rows.{operand_held, operands_held, arith_children, choice_children, convert_child, integer_first}
use Rattle.c_consts.proofs.Climb.{operand_child}

module _ (types : Table) (nodes : List Node) (i : ℕ) (n : Node) (at : slice_get nodes i ≡ Some n) where
  pub kind_is : (kind : NodeKind) → IsOfKind nodes i kind → n.kind ≡ kind
  kind_is kind k = ap (λ (m : Node). m.kind) (some_inj n k.node (slice_get nodes i) at k.at) ∙ k.is

  pub one_is : (h : HasOne nodes i) → n.children ≡ h.first ∷ []
  one_is h = ap (λ (m : Node). m.children) (some_inj n h.node (slice_get nodes i) at h.at) ∙ h.children

  pub two_are : (b : ℕ) (h : HasTwo nodes i b) → n.children ≡ h.first ∷ b ∷ []
  two_are b h = ap (λ (m : Node). m.children) (some_inj n h.node (slice_get nodes i) at h.at) ∙ h.children

  pub three_are : (a b : ℕ) (h : HasThree nodes i a b) → n.children ≡ h.first ∷ a ∷ b ∷ []
  three_are a b h = ap (λ (m : Node). m.children) (some_inj n h.node (slice_get nodes i) at h.at) ∙ h.children

  -- the row of a node of that kind
  pub row_is : AreRowsUnder types nodes i → (kind : NodeKind) → IsOfKind nodes i kind → IsConstantKind kind → RowOf (bare types nodes) kind (type_of types n.ty.0) n.children
  row_is rows kind k of =
      let is = kind_is kind k in
      subst (λ (q : NodeKind). RowOf (bare types nodes) q (type_of types n.ty.0) n.children) is (rows.rows i n here at (subst (λ (q : NodeKind). IsConstantKind q) (sym is) of))

  -- the first operand is the first child
  first_child : (a : ℕ) (more : List ℕ) (x : ℤ) → n.children ≡ a ∷ more → StartsWith types nodes i x → HeldAt types nodes a x
  first_child a more x children s =
      let first : operand_of (form_of n.kind (type_of types n.ty.0)) n.children ≡ Some s.operand = subst (λ o. first_in types o ≡ Some s.operand) at s.first in
      let (rest, child) = operand_child (form_of n.kind (type_of types n.ty.0)) n.children s.operand first in
      let same : s.operand ≡ a = cc in
      subst (λ (q : ℕ). HeldAt types nodes q x) same s.held

  pub held_here : (result : Result ℤ ConstFault) → IfOk result (λ v. Holds (type_of types n.ty.0) v) → IfOk result (λ v. HeldAt types nodes i v)
  held_here (Ok v) h = rw at h
  held_here (Err f) h = tt

  unary_held : (op : Op) (x : ℤ) → HasOne nodes i → StartsWith types nodes i x → ((a : ℕ) × (n.children ≡ a ∷ []) × Unary op (type_at (bare types nodes) a) (type_of types n.ty.0)) ⊎ ((a : ℕ) × (b : ℕ) × (n.children ≡ a ∷ b ∷ []) × Binary op (type_at (bare types nodes) a) (type_at (bare types nodes) b) (type_of types n.ty.0)) → OperandIn op (type_of types n.ty.0) x
  unary_held op x h s (inl (a, children, row)) = operand_held op (type_at (bare types nodes) a) (type_of types n.ty.0) x row (first_child a [] x children s)
  unary_held op x h s (inr (a, b, children, row)) = let one = one_is h in absurd (let no : ⊥ = cc in no)

  pub operand_one : AreRowsUnder types nodes i → (op : Op) (x : ℤ) → IsOfKind nodes i (Arith op) → HasOne nodes i → StartsWith types nodes i x → OperandIn op (type_of types n.ty.0) x
  operand_one rows op x kind one s = unary_held op x one s (arith_children (bare types nodes) op (type_of types n.ty.0) n.children (row_is rows (Arith op) kind tt))

  binary_held : (op : Op) (c : ℕ) (x y : ℤ) → HasTwo nodes i c → StartsWith types nodes i x → HeldAt types nodes c y → ((a : ℕ) × (n.children ≡ a ∷ []) × Unary op (type_at (bare types nodes) a) (type_of types n.ty.0)) ⊎ ((a : ℕ) × (b : ℕ) × (n.children ≡ a ∷ b ∷ []) × Binary op (type_at (bare types nodes) a) (type_at (bare types nodes) b) (type_of types n.ty.0)) → OperandsIn op (type_of types n.ty.0) x y
  binary_held op c x y h s held (inl (a, children, row)) = let two = two_are c h in absurd (let no : ⊥ = cc in no)
  binary_held op c x y h s held (inr (a, b, children, row)) =
      let two = two_are c h in
      let same : c ≡ b = cc in
      operands_held op (type_at (bare types nodes) a) (type_at (bare types nodes) b) (type_of types n.ty.0) x y row (first_child a (b ∷ []) x children s) (subst (λ (q : ℕ). HeldAt types nodes q y) same held)

  pub operands_two : AreRowsUnder types nodes i → (op : Op) (c : ℕ) (x y : ℤ) → IsOfKind nodes i (Arith op) → HasTwo nodes i c → StartsWith types nodes i x → HeldAt types nodes c y → OperandsIn op (type_of types n.ty.0) x y
  operands_two rows op c x y kind two s held = binary_held op c x y two s held (arith_children (bare types nodes) op (type_of types n.ty.0) n.children (row_is rows (Arith op) kind tt))

  -- a node with a first operand, of such a kind, is of an integer type
  pub integer_here : (kind : NodeKind) (form : Form) (x : ℤ) → IsOfKind nodes i kind → ((t : Ctype) → form_of kind t ≡ of_integer t form) → StartsWith types nodes i x → IsInteger (type_of types n.ty.0)
  integer_here kind form x k is s =
      let first : operand_of (form_of n.kind (type_of types n.ty.0)) n.children ≡ Some s.operand = subst (λ o. first_in types o ≡ Some s.operand) at s.first in
      let there : operand_of (form_of kind (type_of types n.ty.0)) n.children ≡ Some s.operand = subst (λ (q : NodeKind). operand_of (form_of q (type_of types n.ty.0)) n.children ≡ Some s.operand) (kind_is kind k) first in
      integer_first form (type_of types n.ty.0) n.children s.operand (subst (λ (q : Form). operand_of q n.children ≡ Some s.operand) (is (type_of types n.ty.0)) there)

  -- a choice has three operands
  three_of : (children : List ℕ) → n.children ≡ children → length children ≡ 3 → HasThree nodes i (get_or children 1 0) (get_or children 2 0)
  three_of (a ∷ b ∷ c ∷ []) e l = record { node = n; at = at; first = a; children = e }
  three_of [] e l = absurd (omega arith)
  three_of (a ∷ []) e l = absurd (omega arith)
  three_of (a ∷ b ∷ []) e l = absurd (omega arith)
  three_of (a ∷ b ∷ c ∷ d ∷ more) e l = absurd (omega arith)

  pub length_three : AreRowsUnder types nodes i → IsOfKind nodes i Choose → length n.children ≡ 3
  length_three rows kind =
      let (c, a, b, children, s, t) = choice_children (bare types nodes) (type_of types n.ty.0) n.children (row_is rows Choose kind tt) in
      ap (λ (xs : List ℕ). length xs) children

  pub three_here : AreRowsUnder types nodes i → IsOfKind nodes i Choose → HasThree nodes i (get_or n.children 1 0) (get_or n.children 2 0)
  three_here rows kind = three_of n.children refl (length_three rows kind)

  one_or_two : (length n.children ≡ 2 → ⊥) → (op : Op) → ((a : ℕ) × (n.children ≡ a ∷ []) × Unary op (type_at (bare types nodes) a) (type_of types n.ty.0)) ⊎ ((a : ℕ) × (b : ℕ) × (n.children ≡ a ∷ b ∷ []) × Binary op (type_at (bare types nodes) a) (type_at (bare types nodes) b) (type_of types n.ty.0)) → HasOne nodes i
  one_or_two short op (inl (a, children, row)) = record { node = n; at = at; first = a; children = children }
  one_or_two short op (inr (a, b, children, row)) = absurd (short (rw children refl))

  pub one_here : AreRowsUnder types nodes i → (op : Op) → IsOfKind nodes i (Arith op) → (length n.children ≡ 2 → ⊥) → HasOne nodes i
  one_here rows op kind short = one_or_two short op (arith_children (bare types nodes) op (type_of types n.ty.0) n.children (row_is rows (Arith op) kind tt))

  two_of : (children : List ℕ) → n.children ≡ children → length children ≡ 2 → HasTwo nodes i (get_or children 1 0)
  two_of (a ∷ b ∷ []) e l = record { node = n; at = at; first = a; children = e }
  two_of [] e l = absurd (omega arith)
  two_of (a ∷ []) e l = absurd (omega arith)
  two_of (a ∷ b ∷ c ∷ more) e l = absurd (omega arith)

  pub two_here : length n.children ≡ 2 → HasTwo nodes i (get_or n.children 1 0)
  two_here l = two_of n.children refl l

  pub conversion_child : AreRowsUnder types nodes i → IsOfKind nodes i Convert → (a : ℕ) × (n.children ≡ a ∷ [])
  conversion_child rows kind = convert_child (bare types nodes) (type_of types n.ty.0) n.children (row_is rows Convert kind tt)

-- what is read at an index is the entry there
pub read_here : {X : Type 0} (xs : List X) (i : ℕ) (d : X) → i < length xs → slice_get xs i ≡ Some (get_or xs i d)
read_here [] i d lt = absurd (omega arith)
read_here (x ∷ xs) zero d lt = refl
read_here (x ∷ xs) (suc i) d lt = read_here xs i d (omega arith)

-- a conversion is right at any node
pub asked_anywhere : (live : Bool) (i j : ℕ) (v : ℤ) → asked_at live i (Gives v) ≡ asked_at live j (Gives v)
asked_anywhere true i j v = refl
asked_anywhere false i j v = refl

-- one operand behind the first is a node, of a smaller number
pub two_less : (types : Table) (nodes : List Node) (i b : ℕ) → AreRowsUnder types nodes i → HasTwo nodes i b → b < i
two_less types nodes i b rows h =
    let all = subst (λ (xs : List ℕ). All (λ c. c < i) xs) h.children (rows.order.children i h.node h.at) in
    All-head (λ c. c < i) b [] (All-tail (λ c. c < i) h.first (b ∷ []) all)

pub three_less : (types : Table) (nodes : List Node) (i a b : ℕ) → AreRowsUnder types nodes i → HasThree nodes i a b → (a < i) × (b < i)
three_less types nodes i a b rows h =
    let all = subst (λ (xs : List ℕ). All (λ c. c < i) xs) h.children (rows.order.children i h.node h.at) in
    let rest = All-tail (λ c. c < i) h.first (a ∷ b ∷ []) all in
    (All-head (λ c. c < i) a (b ∷ []) rest, All-head (λ c. c < i) b [] (All-tail (λ c. c < i) a (b ∷ []) rest))
