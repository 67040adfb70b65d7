-- The constants of a unit's trees, and of its nodes.
use Rattle.std.proofs.Common.{arith, ◌≡◌, ℕ, zero, suc, ◌<◌, ℤ, pos, false, List, [], ◌∷◌, Option, Some, None, slice_get, length, get_or, refl, sym, ap, ◌∙◌, subst, All, Ok, Err}
use Rattle.std.specs.Ordering.{int_eq}
use Rattle.std.proofs.lemmas.Option.{slice_get-get_or}
use Rattle.std.proofs.lemmas.List.Elements.{All-head, All-tail, All-weaker}
use Rattle.c_types.specs.Trees.{Ctype}
use Rattle.c_types.specs.Table.{type_of}
use Rattle.core_tree.specs.declared.node.Node.{Node}
use Rattle.core_tree.specs.declared.node.Unit.{Unit}
use Rattle.core_tree.specs.declared.node.Op.{Op}
use Rattle.core_tree.specs.declared.node.NodeKind.{NodeKind}
use Rattle.core_tree.specs.declared.node.NodeKind.TheVariants.{Number, Choose, Convert, Arith, Skip}
use Rattle.core_tree.specs.Typed.{sort_at, type_at, sort_in, type_in, ValueNode, IsScalar, IsValue}
use Rattle.core_tree.specs.Rows.{RowOf, Unary, Binary, Converts, IsCondition}
use Rattle.core_tree.specs.Range.{Under, here, below, child_in}
use Rattle.c_consts.specs.declared.fault.ConstFault.{ConstFault}
use Rattle.c_consts.specs.Core.{Core, Of, Stands, StandAll, ctype_of, core_sort}
use Rattle.c_consts.specs.Nodes.{IsConstantKind, RowsUnder, bare}
use Rattle.c_consts.specs.Answer.{Found, Value, Fails, located}
use Rattle.core_nodes.specs.passed.c_senses.Nulls.{is_zero_found}
use Rattle.core_nodes.specs.Standing.{core_at, cores_at, IsReady}
use Rattle.core_nodes.proofs.Reading.{core_is, sort_is, type_is}
use Rattle.c_conversions.specs.Constants.{IsValueOf, IsTested, ConstantOver, HasRows, HaveRows}

abbrev any_node : Node
any_node = record { kind = Skip; place = record { unit = 0; line = 0; column = 0 }; ty = record { 0 = 0 }; children = [] }

module _ (u : Unit) (ready : IsReady u) where
  -- each node stands as its tree
  all_stand : (n : ℕ) → ((j : ℕ) → j < n → Stands u.types u.nodes.items j (core_at u j)) → (is : List ℕ) → All (λ c. c < n) is → StandAll u.types u.nodes.items is (cores_at u is)
  all_stand n each [] all = refl
  all_stand n each (i ∷ is) all = (i, is, refl, each i (All-head (λ c. c < n) i is all), all_stand n each is (All-tail (λ c. c < n) i is all))

  stands_below : (k i : ℕ) → i < k → i < length u.nodes.items → Stands u.types u.nodes.items i (core_at u i)
  stands_below zero i lt h = absurd (omega arith)
  stands_below (suc k) i lt h =
      let n = get_or u.nodes.items i any_node in
      let at : slice_get u.nodes.items i ≡ Some n = slice_get-get_or u.nodes.items i any_node h in
      subst (λ (c : Core). Stands u.types u.nodes.items i c) (sym (core_is u ready i n at))
      (n, at, refl, refl, refl, all_stand i (λ j less. stands_below k j (omega arith) (omega arith)) n.children (ready.children i n at))

  pub core_stands : (i : ℕ) → i < length u.nodes.items → Stands u.types u.nodes.items i (core_at u i)
  core_stands i h = stands_below (suc i) i (omega arith) h

  -- what is known of a node's children from their trees
  child_sort : (c : ℕ) → c < length u.nodes.items → core_sort (core_at u c) ≡ ValueNode → sort_at (bare u.types u.nodes.items) c ≡ ValueNode
  child_sort c lt e =
      let at : slice_get u.nodes.items c ≡ Some (get_or u.nodes.items c any_node) = slice_get-get_or u.nodes.items c any_node lt in
      ap sort_in at ∙ (sort_is u ready c _ at ∙ e)

  child_type : (c : ℕ) → c < length u.nodes.items → type_at (bare u.types u.nodes.items) c ≡ ctype_of (core_at u c)
  child_type c lt =
      let at : slice_get u.nodes.items c ≡ Some (get_or u.nodes.items c any_node) = slice_get-get_or u.nodes.items c any_node lt in
      ap (type_in u.types) at ∙ type_is u ready c _ at

  of_type : (P : Ctype → Type 0) (c : ℕ) → c < length u.nodes.items → P (ctype_of (core_at u c)) → P (type_at (bare u.types u.nodes.items) c)
  of_type P c lt h = subst P (sym (child_type c lt)) h

  value_at : (t : Ctype) (c : ℕ) → c < length u.nodes.items → IsValueOf (core_at u c) t → IsValue (bare u.types u.nodes.items) c t
  value_at t c lt h = (child_sort c lt h.0, child_type c lt ∙ h.1)

  tested_at : (c : ℕ) → c < length u.nodes.items → IsTested (core_at u c) → IsCondition (bare u.types u.nodes.items) c
  tested_at c lt h = (child_sort c lt h.0, of_type IsScalar c lt h.1)

  number_row : (n : ℤ) (t : Ctype) (is : List ℕ) → ConstantOver (Number n) t (cores_at u is) → RowOf (bare u.types u.nodes.items) (Number n) t is
  number_row n t [] h = h
  number_row n t (i ∷ is) h = absurd h

  arith_row : (op : Op) (t : Ctype) (is : List ℕ) → All (λ c. c < length u.nodes.items) is → ConstantOver (Arith op) t (cores_at u is) → RowOf (bare u.types u.nodes.items) (Arith op) t is
  arith_row op t [] lt h = absurd h
  arith_row op t (a ∷ []) lt h =
      let la = All-head (λ c. c < length u.nodes.items) a [] lt in
      (child_sort a la h.0, of_type (λ (q : Ctype). Unary op q t) a la h.1)
  arith_row op t (a ∷ b ∷ []) lt h =
      let la = All-head (λ c. c < length u.nodes.items) a (b ∷ []) lt in
      let lb = All-head (λ c. c < length u.nodes.items) b [] (All-tail (λ c. c < length u.nodes.items) a (b ∷ []) lt) in
      (child_sort a la h.0, child_sort b lb h.1, of_type (λ (q : Ctype). Binary op q (type_at (bare u.types u.nodes.items) b) t) a la (of_type (λ (q : Ctype). Binary op (ctype_of (core_at u a)) q t) b lb h.2))
  arith_row op t (a ∷ b ∷ c ∷ is) lt h = absurd h

  choose_row : (t : Ctype) (is : List ℕ) → All (λ c. c < length u.nodes.items) is → ConstantOver Choose t (cores_at u is) → RowOf (bare u.types u.nodes.items) Choose t is
  choose_row t (c ∷ a ∷ b ∷ []) lt h =
      let lc = All-head (λ c. c < length u.nodes.items) c (a ∷ b ∷ []) lt in
      let more = All-tail (λ c. c < length u.nodes.items) c (a ∷ b ∷ []) lt in
      let la = All-head (λ c. c < length u.nodes.items) a (b ∷ []) more in
      let lb = All-head (λ c. c < length u.nodes.items) b [] (All-tail (λ c. c < length u.nodes.items) a (b ∷ []) more) in
      (tested_at c lc h.0, value_at t a la h.1, value_at t b lb h.2)
  choose_row t [] lt h = absurd h
  choose_row t (a ∷ []) lt h = absurd h
  choose_row t (a ∷ b ∷ []) lt h = absurd h
  choose_row t (a ∷ b ∷ c ∷ d ∷ is) lt h = absurd h

  convert_row : (t : Ctype) (is : List ℕ) → All (λ c. c < length u.nodes.items) is → ConstantOver Convert t (cores_at u is) → RowOf (bare u.types u.nodes.items) Convert t is
  convert_row t [] lt h = absurd h
  convert_row t (v ∷ []) lt h =
      let lv = All-head (λ c. c < length u.nodes.items) v [] lt in
      let same = child_type v lv in
      (child_sort v lv h.0, λ e. h.1 (sym same ∙ e), of_type (λ (q : Ctype). Converts q t) v lv h.2)
  convert_row t (a ∷ b ∷ is) lt h = absurd h

  row_by : (kind : NodeKind) (t : Ctype) (is : List ℕ) → All (λ c. c < length u.nodes.items) is → IsConstantKind kind → ConstantOver kind t (cores_at u is) → RowOf (bare u.types u.nodes.items) kind t is
  row_by (Number n) t is lt of h = number_row n t is h
  row_by (Arith op) t is lt of h = arith_row op t is lt h
  row_by Choose t is lt of h = choose_row t is lt h
  row_by Convert t is lt of h = convert_row t is lt h
  row_by kind t is lt of h = absurd of

  part_rows : (is : List ℕ) (k n : ℕ) → slice_get is k ≡ Some n → HaveRows (cores_at u is) → HasRows (core_at u n)
  part_rows [] k n e h = cc
  part_rows (i ∷ is) zero n e h = let same : i ≡ n = cc in subst (λ (j : ℕ). HasRows (core_at u j)) same h.0
  part_rows (i ∷ is) (suc k) n e h = part_rows is k n e h.1

  child_rows : (p n k : ℕ) (o : Option Node) → slice_get u.nodes.items p ≡ o → child_in o k ≡ Some n → HasRows (core_at u p) → HasRows (core_at u n)
  child_rows p n k None at e h = cc
  child_rows p n k (Some m) at e h =
      let whole : HasRows (Of m.kind m.place (type_of u.types m.ty.0) (cores_at u m.children)) = subst (λ (c : Core). HasRows c) (core_is u ready p m at) h in
      part_rows m.children k n e whole.1

  under_rows : (i n : ℕ) → Under (bare u.types u.nodes.items) i n → HasRows (core_at u i) → HasRows (core_at u n)
  under_rows i n here h = h
  under_rows i n (below {parent = p} up last) h = child_rows p n last.0 (slice_get u.nodes.items p) refl last.1 (under_rows i p up h)

  -- a tree's rows are those of the nodes under its own
  pub rows_under : (i : ℕ) → HasRows (core_at u i) → RowsUnder u.types u.nodes.items i
  rows_under i h = λ n node up at of.
      let here : HasRows (Of node.kind node.place (type_of u.types node.ty.0) (cores_at u node.children)) = subst (λ (c : Core). HasRows c) (core_is u ready n node at) (under_rows i n up h) in
      let within : n < length u.nodes.items = found_within u.nodes.items n node at in
      row_by node.kind (type_of u.types node.ty.0) node.children (All-weaker (λ c. c < n) (λ c. c < length u.nodes.items) (λ c lt. omega arith) node.children (ready.children n node at)) of here.0
    where
      found_within : (xs : List Node) (k : ℕ) (x : Node) → slice_get xs k ≡ Some x → k < length xs
      found_within [] k x e = cc
      found_within (y ∷ xs) zero x e = omega arith
      found_within (y ∷ xs) (suc k) x e = omega (arith, found_within xs k x e)

-- what a value or a fault tells of what is found
pub zero_value : (nodes : List Node) (i : ℕ) (found : Found) (v : ℤ) → Ok v ≡ located nodes i found → int_eq v (pos 0) ≡ is_zero_found found
zero_value nodes i (Value x) v e = let same : v ≡ x = cc in ap (λ (n : ℤ). int_eq n (pos 0)) same
zero_value nodes i (Fails wrong path) v e = cc

pub zero_fault : (nodes : List Node) (i : ℕ) (found : Found) (f : ConstFault) → Err f ≡ located nodes i found → false ≡ is_zero_found found
zero_fault nodes i (Value x) f e = cc
zero_fault nodes i (Fails wrong path) f e = refl
