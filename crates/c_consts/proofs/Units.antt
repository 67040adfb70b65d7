-- The nodes of a unit are rows, and stay so.
use Rattle.std.proofs.Common.{arith, ◌≡◌, ◌<◌, ◌≤◌, ℕ, zero, suc, Bool, true, false, if◌then◌else◌, List, [], ◌∷◌, ◌++◌, Option, Some, ◌⊎◌, inl, inr, All, slice_get, length, refl, sym, ap, subst}
use Rattle.std.proofs.lemmas.List.Elements.{All-head, All-tail}
use Rattle.c_types.specs.Trees.{Ctype}
use Rattle.c_types.specs.Table.{Table, type_of}
use Rattle.core_tree.specs.declared.node.Node.{Node}
use Rattle.core_tree.specs.declared.node.NodeKind.{NodeKind}
use Rattle.core_tree.specs.declared.node.NodeKind.TheVariants.{Number, Choose, Convert, Arith}
use Rattle.core_tree.specs.Typed.{CoreTrees, sort_at, type_at, sort_in, type_in}
use Rattle.core_tree.specs.Rows.{RowOf}
use Rattle.core_tree.specs.Valid.{InRange, InRows}
use Rattle.c_consts.specs.Nodes.{AreRows, IsConstantKind, bare}

-- the nodes of those numbers are of one sort and of one type
abbrev pub SameAll : CoreTrees → CoreTrees → List ℕ → Type 0
SameAll u v [] = Unit {0}
SameAll u v (c ∷ more) = (sort_at u c ≡ sort_at v c) × (type_at u c ≡ type_at v c) × SameAll u v more

-- a row of those kinds says nothing of entities, and of nodes only what its children are
pub row_between : (u v : CoreTrees) (kind : NodeKind) (t : Ctype) (children : List ℕ) → IsConstantKind kind → SameAll u v children → RowOf u kind t children → RowOf v kind t children
row_between u v (Number n) t [] of same row = row
row_between u v (Number n) t (a ∷ more) of same row = absurd row
row_between u v (Arith op) t [] of same row = absurd row
row_between u v (Arith op) t (a ∷ []) of same row = rw (sym same.0, sym same.1) row
row_between u v (Arith op) t (a ∷ b ∷ []) of same row = rw (sym same.0, sym same.1, sym same.2.0, sym same.2.1) row
row_between u v (Arith op) t (a ∷ b ∷ c ∷ more) of same row = absurd row
row_between u v Choose t [] of same row = absurd row
row_between u v Choose t (a ∷ []) of same row = absurd row
row_between u v Choose t (a ∷ b ∷ []) of same row = absurd row
row_between u v Choose t (a ∷ b ∷ c ∷ []) of same row = rw (sym same.0, sym same.1, sym same.2.0, sym same.2.1, sym same.2.2.0, sym same.2.2.1) row
row_between u v Choose t (a ∷ b ∷ c ∷ d ∷ more) of same row = absurd row
row_between u v Convert t [] of same row = absurd row
row_between u v Convert t (a ∷ []) of same row = rw (sym same.0, sym same.1) row
row_between u v Convert t (a ∷ b ∷ more) of same row = absurd row
row_between u v kind t children of same row = absurd of

all_same : (u : CoreTrees) (children : List ℕ) → SameAll u (bare u.types u.nodes) children
all_same u [] = tt
all_same u (c ∷ more) = (refl, refl, all_same u more)

-- those of a unit in range whose nodes stand in their rows
pub rows_of_unit : (u : CoreTrees) → InRange u → InRows u → AreRows u.types u.nodes
rows_of_unit u range rows = record {
  order = record { types = range.types; children = range.children };
  rows = λ n node at of. row_between u (bare u.types u.nodes) node.kind (type_of u.types node.ty.0) node.children of (all_same u node.children) (rows n node at);
}

-- ---- one node more

slice_get_front : {X : Type 0} (xs ys : List X) (i : ℕ) → i < length xs → slice_get xs i ≡ slice_get (xs ++ ys) i
slice_get_front [] ys i lt = absurd (omega arith)
slice_get_front (x ∷ xs) ys zero lt = refl
slice_get_front (x ∷ xs) ys (suc i) lt = slice_get_front xs ys i (omega arith)

slice_get_last : {X : Type 0} (xs : List X) (y : X) (i : ℕ) (e : X) → slice_get (xs ++ y ∷ []) i ≡ Some e → ((i < length xs) × (slice_get xs i ≡ Some e)) ⊎ ((i ≡ length xs) × (y ≡ e))
slice_get_last [] y zero e h = inr (refl, cc)
slice_get_last [] y (suc i) e h = cc
slice_get_last (x ∷ xs) y zero e h = inl (omega arith, h)
slice_get_last (x ∷ xs) y (suc i) e h = elim (slice_get_last xs y i e h) [ inl p ↦ inl (omega (arith, p.0), p.1) | inr p ↦ inr (omega (arith, p.0), p.1) ]

module _ (types : Table) (nodes : List Node) (n : Node) where
  same_front : (m : ℕ) → m ≤ length nodes → (children : List ℕ) → All (λ c. c < m) children → SameAll (bare types nodes) (bare types (nodes ++ n ∷ [])) children
  same_front m le [] all = tt
  same_front m le (c ∷ more) all =
      let less = All-head (λ c. c < m) c more all in
      let e = slice_get_front nodes (n ∷ []) c (omega arith) in
      (ap (λ (o : Option Node). sort_in o) e, ap (λ (o : Option Node). type_in types o) e, same_front m le more (All-tail (λ c. c < m) c more all))

  module _ (rows : AreRows types nodes) (type : n.ty.0 < length types.terms) (children : All (λ c. c < length nodes) n.children) (row : IsConstantKind n.kind → RowOf (bare types nodes) n.kind (type_of types n.ty.0) n.children) where
    pushed_types : (i : ℕ) (node : Node) → slice_get (nodes ++ n ∷ []) i ≡ Some node → node.ty.0 < length types.terms
    pushed_types i node at = elim (slice_get_last nodes n i node at) [ inl p ↦ rows.order.types i node p.1 | inr p ↦ subst (λ (m : Node). m.ty.0 < length types.terms) p.1 type ]

    pushed_children : (i : ℕ) (node : Node) → slice_get (nodes ++ n ∷ []) i ≡ Some node → All (λ c. c < i) node.children
    pushed_children i node at = elim (slice_get_last nodes n i node at) [
      | inl p ↦ rows.order.children i node p.1
      | inr p ↦ subst (λ (k : ℕ). All (λ c. c < k) node.children) (sym p.0) (subst (λ (m : Node). All (λ c. c < length nodes) m.children) p.1 children)
    ]

    pushed_row : (node : Node) → n ≡ node → IsConstantKind node.kind → RowOf (bare types (nodes ++ n ∷ [])) node.kind (type_of types node.ty.0) node.children
    pushed_row node e of = subst (λ (m : Node). IsConstantKind m.kind → RowOf (bare types (nodes ++ n ∷ [])) m.kind (type_of types m.ty.0) m.children) e
        (λ k. row_between (bare types nodes) (bare types (nodes ++ n ∷ [])) n.kind (type_of types n.ty.0) n.children k (same_front (length nodes) (omega arith) n.children children) (row k)) of

    old_row : (i : ℕ) (node : Node) → i < length nodes → slice_get nodes i ≡ Some node → IsConstantKind node.kind → RowOf (bare types (nodes ++ n ∷ [])) node.kind (type_of types node.ty.0) node.children
    old_row i node lt at of =
        row_between (bare types nodes) (bare types (nodes ++ n ∷ [])) node.kind (type_of types node.ty.0) node.children of (same_front i (omega arith) node.children (rows.order.children i node at)) (rows.rows i node at of)

    -- a node in its row goes behind
    pub rows_push : AreRows types (nodes ++ n ∷ [])
    rows_push = record {
      order = record { types = pushed_types; children = pushed_children };
      rows = λ i node at of. elim (slice_get_last nodes n i node at) [ inl p ↦ old_row i node p.0 p.1 of | inr p ↦ pushed_row node p.1 of ];
    }

pub rows_none : (types : Table) → AreRows types []
rows_none types = record {
  order = record { types = λ i node at. cc; children = λ i node at. absurd (let no : ⊥ = cc in no) };
  rows = λ i node at of. absurd (let no : ⊥ = cc in no);
}

-- the nodes after a push that may want memory
pub rows_tried : (types : Table) (nodes after : List Node) (n : Node) (done : Bool) → after ≡ (if done then nodes ++ n ∷ [] else nodes) → AreRows types nodes → AreRows types (nodes ++ n ∷ []) → AreRows types after
rows_tried types nodes after n true e old new = subst (λ (ns : List Node). AreRows types ns) (sym e) new
rows_tried types nodes after n false e old new = subst (λ (ns : List Node). AreRows types ns) (sym e) old
