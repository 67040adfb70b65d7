-- The rows of nodes: no two nodes share one.
use Rattle.std.proofs.Common.{arith, ◌≡◌, ◌∙◌, ◌⊎◌, inl, inr, ℕ, zero, suc, ◌+◌, ◌<◌, ◌≤◌, ◌==◌, ◌&&◌, Bool, true, false, cond, List, [], ◌∷◌, map, length, take, get_or, Option, Some, None, slice_get, Contains, refl, sym, ap, subst}
use Rattle.std.specs.Prelude.{sum}
use Rattle.std.specs.List.{range_with_len, list_any}
use Rattle.std.proofs.lemmas.Bool.{false≢true, cases_lt}
use Rattle.std.proofs.lemmas.Bool.Decides.{eqb_tells}
use Rattle.std.proofs.lemmas.Option.{slice_get_within}
use Rattle.std.proofs.lemmas.List.Sums.{sum_by-cons}
use Rattle.c_types.specs.Trees.{Ctype, VoidType, BoolType, IntegerType, FloatingType, VaListType, PointerTo, ArrayOf, FunctionFrom, StructureOf, UnionOf}
use Rattle.c_types.specs.Table.{Table, type_of}
use Rattle.type_rules.specs.Conversions.{decayed}
use Rattle.core_tree.specs.declared.node.Node.{Node}
use Rattle.core_tree.specs.declared.node.NodeKind.{NodeKind}
use Rattle.core_tree.specs.declared.node.NodeKind.TheVariants.{FunctionName, Decay, CallNode}
use Rattle.core_tree.specs.Rows.{RowOf, DecayRow}
use Rattle.core_tree.specs.Typed.{CoreTrees, Sort, PlaceNode, ValueNode, sort_of, sort_in, sort_at, type_in, type_at}
use Rattle.core_tree.specs.Valid.{InRows}
use Rattle.obj_space.specs.View.{SpaceView}
use Rattle.obj_space.proofs.Placed.{get_map}
use Rattle.row_numbers.specs.Kept.{nodes_of, is_kept, kept_at, kept_from, kept, kept_count, kept_row, row_or, row_list}
use Rattle.row_numbers.specs.Setting.{calls_further, width_by, own_width, lead, lead_in, trail, trail_at, width, widths, row, list_row, rest_row, result_row, none_row, value_rows}
use Rattle.row_numbers.proofs.KeptLemmas.{count_more}
use Rattle.linked_laws.proofs.system_laws.Rows.{kept_fewer}
use Rattle.covered_runs.proofs.covered_programs.allocation_laws.Marks.{none_some, some_one, any_there, any_from, same_number, is_marked, IsMarked, as_name, as_decay, marked_is, name_of_kind}

-- Sums of the first so many widths.

sum_cons : (x : ℕ) (xs : List ℕ) → sum (x ∷ xs) ≡ x + sum xs
sum_cons x xs = sum_by-cons (λ (y : ℕ). y) x xs

sums_apart : (ws : List ℕ) (v m w : ℕ) → slice_get ws v ≡ Some w → v < m → sum (take v ws) + w ≤ sum (take m ws)
sums_apart [] v m w at lt = absurd (none_some at)
sums_apart (x ∷ ws) v zero w at lt = absurd (omega arith)
sums_apart (x ∷ ws) zero (suc m) w at lt = let e : x ≡ w = some_one at in let more = sum_cons x (take m ws) in omega arith
sums_apart (x ∷ ws) (suc v) (suc m) w at lt = let less = sums_apart ws v m w at (omega arith) in let a = sum_cons x (take v ws) in let b = sum_cons x (take m ws) in omega arith

sum_within : (ws : List ℕ) (v w : ℕ) → slice_get ws v ≡ Some w → sum (take v ws) + w ≤ sum ws
sum_within [] v w at = absurd (none_some at)
sum_within (x ∷ ws) zero w at = let e : x ≡ w = some_one at in let more = sum_cons x ws in omega arith
sum_within (x ∷ ws) (suc v) w at = let less = sum_within ws v w at in let a = sum_cons x (take v ws) in let b = sum_cons x ws in omega arith

-- which row of the nodes of a type is the one of its k-th kept node
record IsKeptPlace (s : ℕ) (nodes : List Ctype) (k i : ℕ) : Type 0 where
  at : ℕ
  number : i ≡ s + at
  before : length (kept_from s (take at nodes)) ≡ k

kept_place : (s : ℕ) (nodes : List Ctype) (k d : ℕ) → k < length (kept_from s nodes) → IsKeptPlace s nodes k (get_or (kept_from s nodes) k d)
kept_place s [] k d lt = absurd (omega arith)
kept_place s (t ∷ rest) k d lt = by (is_kept t) refl k lt (λ j less. kept_place (s + 1) rest j d less)
  where
    by : (b : Bool) → is_kept t ≡ b → (k : ℕ) → k < length (cond b (s ∷ kept_from (s + 1) rest) (kept_from (s + 1) rest)) → ((j : ℕ) → j < length (kept_from (s + 1) rest) → IsKeptPlace (s + 1) rest j (get_or (kept_from (s + 1) rest) j d))
        → IsKeptPlace s (t ∷ rest) k (get_or (cond b (s ∷ kept_from (s + 1) rest) (kept_from (s + 1) rest)) k d)
    by true is zero less next = record { at = 0; number = omega arith; before = refl }
    by true is (suc k) less next =
        let r = next k (omega arith) in
        let number = r.number in
        record { at = suc r.at; number = omega arith; before = ap (λ (b : Bool). length (cond b (s ∷ kept_from (s + 1) (take r.at rest)) (kept_from (s + 1) (take r.at rest)))) is ∙ ap suc r.before }
    by false is k less next =
        let r = next k less in
        let number = r.number in
        record { at = suc r.at; number = omega arith; before = ap (λ (b : Bool). length (cond b (s ∷ kept_from (s + 1) (take r.at rest)) (kept_from (s + 1) (take r.at rest)))) is ∙ r.before }

-- a kept node has fewer kept nodes before it than there are
pub kept_low : (nodes : List Ctype) (k d : ℕ) → k < length (kept nodes) → kept_count (take (get_or (kept nodes) k d) nodes) < kept_count nodes
kept_low nodes k d lt =
    let r = kept_place 0 nodes k d lt in
    let number = r.number in
    let same : r.at ≡ get_or (kept nodes) k d = omega arith in
    let before : kept_count (take (get_or (kept nodes) k d) nodes) ≡ k = ap (λ (i : ℕ). kept_count (take i nodes)) (sym same) ∙ r.before in
    omega arith

pub kept_less : (nodes : List Ctype) (i : ℕ) → i < length nodes → kept_at (slice_get nodes i) ≡ true → kept_count (take i nodes) < kept_count nodes
kept_less nodes i lt own = let more = count_more nodes i lt own in let few = kept_fewer nodes (i + 1) in omega arith

pub range_item : (a n k x : ℕ) → slice_get (range_with_len a n) k ≡ Some x → (x ≡ a + k) × (k < n)
range_item a zero k x h = absurd (none_some h)
range_item a (suc n) zero x h = let e = some_one h in (omega arith, omega arith)
range_item a (suc n) (suc k) x h = let e = range_item (a + 1) n k x h in let one = e.0 in let two = e.1 in (omega arith, omega arith)

range_at : (a n k : ℕ) → k < n → slice_get (range_with_len a n) k ≡ Some (a + k)
range_at a zero k lt = absurd (omega arith)
range_at a (suc n) zero lt = ap (λ (m : ℕ). Some m) (let e : a ≡ a + 0 = omega arith in e)
range_at a (suc n) (suc k) lt = range_at (a + 1) n k (omega arith) ∙ ap (λ (m : ℕ). Some m) (let e : (a + 1) + k ≡ a + suc k = omega arith in e)

pub item_there : {X : Type 0} (xs : List X) (x : X) → Contains xs x → (k : ℕ) × (slice_get xs k ≡ Some x)
item_there [] x h = absurd (let lt = h.1 in omega arith)
item_there {X = X} (y ∷ ys) x h = by h.0 h.1 h.2 (λ g. item_there ys x g)
  where
    by : (k : ℕ) → k < suc (length ys) → get_or (y ∷ ys) k x ≡ x → (Contains ys x → (j : ℕ) × (slice_get ys j ≡ Some x)) → (j : ℕ) × (slice_get (y ∷ ys) j ≡ Some x)
    by zero lt e next = (0, ap (λ (z : X). Some z) e)
    by (suc k) lt e next = let r = next (k, omega arith, e) in (suc r.0, r.1)

pub mapped_from : {X Y : Type 0} (f : X → Y) (xs : List X) (k : ℕ) (y : Y) → slice_get (map f xs) k ≡ Some y → (x : X) × (slice_get xs k ≡ Some x) × (f x ≡ y)
mapped_from f [] k y h = absurd (none_some h)
mapped_from f (x ∷ xs) zero y h = (x, refl, some_one h)
mapped_from f (x ∷ xs) (suc k) y h = mapped_from f xs k y h

-- a row of a list of rows is one of a kept node, or the one that stands for nodes without a row
pub list_rows : (none first : ℕ) (nodes : List Ctype) (k r : ℕ) → slice_get (row_list none first nodes) k ≡ Some r → (r ≡ none) ⊎ ((first ≤ r) × (r < first + kept_count nodes))
list_rows none first nodes k r h =
    let m = mapped_from (λ (i : ℕ). row_or none (kept_row first nodes i) (kept_at (slice_get nodes i))) (range_with_len 0 (length nodes)) k r h in
    let at = range_item 0 (length nodes) k m.0 m.1 in
    let number = at.0 in
    let within = at.1 in
    by m.0 (kept_at (slice_get nodes m.0)) refl (omega arith) m.2
  where
    by : (i : ℕ) (b : Bool) → kept_at (slice_get nodes i) ≡ b → i < length nodes → row_or none (kept_row first nodes i) b ≡ r → (r ≡ none) ⊎ ((first ≤ r) × (r < first + kept_count nodes))
    by i true is lt e = let less = kept_less nodes i lt is in inr (omega arith, omega arith)
    by i false is lt e = inl (sym e)

-- a pointer is one node, which has a row
one_pointer : (table : Table) (to : Ctype) → kept_count (nodes_of table (PointerTo to)) ≡ 1
one_pointer table to = refl

abbrev IsPointerType : Ctype → Type 0
IsPointerType t = (to : Ctype) × (t ≡ PointerTo to)

decayed_pointer : (a t : Ctype) → decayed a ≡ Some t → IsPointerType t
decayed_pointer (ArrayOf of n) t h = (of, sym (some_one h))
decayed_pointer (FunctionFrom r ps f) t h = (FunctionFrom r ps f, sym (some_one h))
decayed_pointer VoidType t h = absurd (none_some h)
decayed_pointer BoolType t h = absurd (none_some h)
decayed_pointer (IntegerType size rank signed) t h = absurd (none_some h)
decayed_pointer FloatingType t h = absurd (none_some h)
decayed_pointer VaListType t h = absurd (none_some h)
decayed_pointer (PointerTo to) t h = absurd (none_some h)
decayed_pointer (StructureOf tag) t h = absurd (none_some h)
decayed_pointer (UnionOf tag) t h = absurd (none_some h)

module _ (u : CoreTrees) (s : SpaceView) where
  -- a row of a node: one of its own, one in front of these, or one behind them
  pub record IsRowOf (v r : ℕ) : Type 0 where
    pub width : ℕ
    pub width_is : slice_get (widths u) v ≡ Some width
    pub low : list_row u s v ≤ r
    pub high : r < list_row u s v + width

  pub rows_apart : (v m r : ℕ) → IsRowOf v r → IsRowOf m r → v ≡ m
  unfolding list_row
  rows_apart v m r a b = elim (cases_lt v m) [
    | inl less ↦ absurd (let apart = sums_apart (widths u) v m a.width a.width_is less in let high = a.high in let low = b.low in omega arith)
    | inr more ↦ elim (cases_lt m v) [
      | inl less ↦ absurd (let apart = sums_apart (widths u) m v b.width b.width_is less in let high = b.high in let low = a.low in omega arith)
      | inr same ↦ omega arith
    ]
  ]

  -- the rows of nodes stand behind those of locations, before those of results and the one that stands for none
  pub row_behind : (v r : ℕ) → IsRowOf v r → s.count ≤ r
  unfolding list_row
  row_behind v r h = let low = h.low in omega arith

  row_before : (v r : ℕ) → IsRowOf v r → r < s.count + sum (widths u)
  unfolding list_row
  row_before v r h = let high = h.high in let less = sum_within (widths u) v h.width h.width_is in omega arith

  pub before_result : (v r number : ℕ) → IsRowOf v r → r < result_row u s number
  unfolding result_row
  before_result v r number h = let less = row_before v r h in omega arith

  pub before_none : (v r : ℕ) → IsRowOf v r → r < none_row u s
  unfolding none_row
  before_none v r h = let less = row_before v r h in omega arith

  own_row : (v : ℕ) (node : Node) (r : ℕ) → slice_get u.nodes v ≡ Some node → row u s v ≤ r → r < row u s v + own_width u.types node → IsRowOf v r
  unfolding row list_row
  own_row v node r at low high =
      let first : lead_in (slice_get u.nodes v) ≡ lead node.kind = ap lead_in at in
      record { width = width u node; width_is = get_map (width u) u.nodes v node at; low = omega arith; high = omega arith }

  pub place_row : (v : ℕ) → sort_at u v ≡ PlaceNode → IsRowOf v (row u s v)
  place_row v is = by (slice_get u.nodes v) refl is
    where
      by : (o : Option Node) → slice_get u.nodes v ≡ o → sort_in o ≡ PlaceNode → IsRowOf v (row u s v)
      by None at e = absurd (cc)
      by (Some node) at e =
          let one : own_width u.types node ≡ 1 = ap (λ (o : Sort). width_by o (kept_count (nodes_of u.types (type_of u.types node.ty.0)))) e in
          own_row v node (row u s v) at (omega arith) (omega arith)

  pub value_row : (v : ℕ) (t : Ctype) (r : ℕ) → sort_at u v ≡ ValueNode → type_at u v ≡ t → row u s v ≤ r → r < row u s v + kept_count (nodes_of u.types t) → IsRowOf v r
  value_row v t r is type low high = by (slice_get u.nodes v) refl is
    where
      by : (o : Option Node) → slice_get u.nodes v ≡ o → sort_in o ≡ ValueNode → IsRowOf v r
      by None at e = absurd (cc)
      by (Some node) at e =
          let same : own_width u.types node ≡ kept_count (nodes_of u.types t) =
          ap (λ (o : Sort). width_by o (kept_count (nodes_of u.types (type_of u.types node.ty.0)))) e ∙ ap (λ (c : Ctype). kept_count (nodes_of u.types c)) (sym (ap (type_in u.types) at) ∙ type) in
          own_row v node r at low (omega arith)

  -- the row of all that a call passes past the parameters
  pub rest_of_call : (v : ℕ) (node : Node) (c : ℕ) (arguments : List ℕ) → slice_get u.nodes v ≡ Some node → node.kind ≡ CallNode → node.children ≡ c ∷ arguments → calls_further (type_at u c) ≡ true → IsRowOf v (rest_row u s v)
  unfolding row list_row rest_row
  rest_of_call v node c arguments at kind list further =
      let first : lead_in (slice_get u.nodes v) ≡ lead node.kind = ap lead_in at in
      let own : own_width u.types node ≡ kept_count (nodes_of u.types (type_at u v)) =
      ap (λ (j : NodeKind). width_by (sort_of j) (kept_count (nodes_of u.types (type_of u.types node.ty.0)))) kind ∙ sym (ap (λ (o : Option Node). kept_count (nodes_of u.types (type_in u.types o))) at) in
      let behind : trail u node.kind node.children ≡ 1 = ap (λ (j : NodeKind). trail u j node.children) kind ∙ (ap (λ (l : List ℕ). trail u CallNode l) list ∙ ap trail_at further) in
      record { width = width u node; width_is = get_map (width u) u.nodes v node at; low = omega arith; high = omega arith }

  pub pointer_row : (v : ℕ) (to : Ctype) → sort_at u v ≡ ValueNode → type_at u v ≡ PointerTo to → IsRowOf v (row u s v)
  pointer_row v to is type = let one = one_pointer u.types to in value_row v (PointerTo to) (row u s v) is type (omega arith) (omega arith)

  -- the rows of a value, node by node
  pub value_list : (v k r : ℕ) → sort_at u v ≡ ValueNode → slice_get (value_rows u s v) k ≡ Some r → (r ≡ none_row u s) ⊎ IsRowOf v r
  value_list v k r is at = elim (list_rows (none_row u s) (row u s v) (nodes_of u.types (type_at u v)) k r at) [ inl none ↦ inl none | inr own ↦ inr (value_row v (type_at u v) r is refl own.0 own.1) ]

  -- the rows that have the function
  abbrev pub is_special : ℕ → ℕ → Bool
  is_special k r = list_any (λ m. (row u s m == r) && is_marked u k m) (range_with_len 0 (length u.nodes))

  both_true : (a b : Bool) → (a && b) ≡ true → (a ≡ true) × (b ≡ true)
  both_true true b h = (refl, h)
  both_true false b h = absurd (false≢true h)

  same_row : (m r : ℕ) → (m == r) ≡ true → m ≡ r
  same_row m r h = elim (eqb_tells m r) [ inl same ↦ same.1 | inr other ↦ absurd (false≢true (sym other.0 ∙ h)) ]

  pub special_is : (k r : ℕ) → is_special k r ≡ true → (m : ℕ) × (row u s m ≡ r) × IsMarked u k m
  special_is k r h =
      let f = any_there (λ (m : ℕ). (row u s m == r) && is_marked u k m) (range_with_len 0 (length u.nodes)) h in
      let b = both_true (row u s f.item == r) (is_marked u k f.item) f.passes in
      (f.item, same_row (row u s f.item) r b.0, marked_is u k f.item b.1)

  pub marked_special : (k m : ℕ) (node : Node) → slice_get u.nodes m ≡ Some node → is_marked u k m ≡ true → is_special k (row u s m) ≡ true
  marked_special k m node at own =
      any_from (λ (j : ℕ). (row u s j == row u s m) && is_marked u k j) (range_with_len 0 (length u.nodes)) m m
      (range_at 0 (length u.nodes) m (slice_get_within u.nodes m node at) ∙ ap (λ (j : ℕ). Some j) (let e : 0 + m ≡ m = omega arith in e))
      (ap (λ (b : Bool). b && is_marked u k m) (same_number (row u s m)) ∙ own)

  module _ (rows : InRows u) where
    decay_value : (m : ℕ) (node : Node) → slice_get u.nodes m ≡ Some node → node.kind ≡ Decay → IsPointerType (type_at u m)
    decay_value m node at kind =
        by node.children (subst (λ (j : NodeKind). RowOf u j (type_of u.types node.ty.0) node.children) kind (rows m node at))
      where
        by : (children : List ℕ) → DecayRow u (type_of u.types node.ty.0) children → IsPointerType (type_at u m)
        by [] h = absurd h
        by (p ∷ x ∷ rest) h = absurd h
        by (p ∷ []) h = let t = decayed_pointer (type_at u p) (type_of u.types node.ty.0) h.1 in (t.0, ap (type_in u.types) at ∙ t.1)

    sort_there : (m : ℕ) (node : Node) (kind : NodeKind) → slice_get u.nodes m ≡ Some node → node.kind ≡ kind → sort_at u m ≡ sort_of kind
    sort_there m node kind at is = ap sort_in at ∙ ap sort_of is

    -- a node that has the function has a row
    pub marked_row : (k m : ℕ) → IsMarked u k m → IsRowOf m (row u s m)
    marked_row k m (as_name h) = let own = name_of_kind u k h.node.kind h.name in place_row m (sort_there m h.node (FunctionName own.e) h.there own.kind_is)
    marked_row k m (as_decay h) = let t = decay_value m h.node h.there h.kind in pointer_row m t.0 (sort_there m h.node Decay h.there h.kind) t.1

    -- the only node of such a row is that one
    pub special_row : (k v r : ℕ) → is_special k r ≡ true → IsRowOf v r → IsMarked u k v
    special_row k v r h own =
        let m = special_is k r h in
        let same : m.0 ≡ v = rows_apart m.0 v r (subst (IsRowOf m.0) m.1 (marked_row k m.0 m.2)) own in
        subst (IsMarked u k) same m.2

    -- rows of locations, of results and the one that stands for none are none of these
    pub location_plain : (k r : ℕ) → r < s.count → is_special k r ≡ true → ⊥
    location_plain k r lt h = let m = special_is k r h in let own = row_behind m.0 (row u s m.0) (marked_row k m.0 m.2) in let same = m.1 in omega arith

    pub result_plain : (k r number : ℕ) → result_row u s number ≤ r → is_special k r ≡ true → ⊥
    result_plain k r number le h = let m = special_is k r h in let own = before_result m.0 (row u s m.0) number (marked_row k m.0 m.2) in let same = m.1 in omega arith

    pub none_plain : (k : ℕ) → is_special k (none_row u s) ≡ true → ⊥
    none_plain k h = let m = special_is k (none_row u s) h in let own = before_none m.0 (row u s m.0) (marked_row k m.0 m.2) in let same = m.1 in omega arith
