-- Assignments for each kept node of a type are in range.
use Rattle.std.proofs.Common.{arith, ◌≡◌, ◌∙◌, ℕ, ◌+◌, ◌<◌, ◌≤◌, List, [], ◌∷◌, length, get_or, take, Option, Some, None, unwrap_or, slice_get, refl, ap, subst}
use Rattle.std.specs.List.{All}
use Rattle.std.proofs.lemmas.List.Elements.{All-nil, All-cons, All-map}
use Rattle.std.proofs.lemmas.List.FromFn.{length-map-range_with_len}
use Rattle.c_types.specs.declared.key.ObjectKey.{ObjectKey}
use Rattle.c_types.specs.Trees.{Ctype}
use Rattle.core_tree.specs.declared.node.Program.{Program}
use Rattle.core_tree.specs.declared.node.Node.{Node}
use Rattle.core_tree.specs.Typed.{CoreTrees, ValueNode, sort_in, sort_at, type_at, trees_in}
use Rattle.sol_model.specs.declared.system.System.{System}
use Rattle.sol_model.specs.declared.system.LocationFact.{LocationFact}
use Rattle.sol_model.specs.Systems.{location_count, IsNodeOf, IsConstraintValid}
use Rattle.obj_space.specs.declared.location.Location.{Location}
use Rattle.obj_space.specs.View.{SpaceView, first_from, view_of}
use Rattle.row_numbers.specs.Kept.{nodes_of, kept, kept_count, kept_row}
use Rattle.row_numbers.specs.Setting.{row, none_row}
use Rattle.row_numbers.proofs.FrameLemmas.{node_within}
use Rattle.row_numbers.proofs.KeptLemmas.{kept_below}
use Rattle.normal_form.specs.declared.normal.Assignment.{Assignment}
use Rattle.normal_form.specs.declared.normal.Assignment.TheVariants.{Copy, Load, Store}
use Rattle.normal_form.specs.Assignments.{copies, spreads, loads, stores}
use Rattle.normal_form.specs.Facts.{location_fact}
use Rattle.normal_form.specs.SystemOf.{constraint_of, SystemOf}
use Rattle.linked_laws.proofs.system_laws.Calls.{first_below}
use Rattle.linked_laws.proofs.system_laws.Rows.{kept_fewer, value_fits}

module _ (p : Program) (space : List Location) (system : System) (is : SystemOf p (view_of space) system) where
  abbrev pub u : CoreTrees
  u = trees_in p

  abbrev pub s : SpaceView
  s = view_of space

  -- each number of what is assigned is in range
  abbrev pub Fits : Assignment → Type 0
  Fits a = IsConstraintValid system (constraint_of a)

  pub row_in : (r : ℕ) → r ≤ none_row u s → r < system.rows
  row_in r le = let many = is.rows in omega arith

  pub node_row : (k : ℕ) → row u s k < system.rows
  node_row k = row_in (row u s k) (node_within u s k)

  pub count_is : location_count system ≡ length space
  count_is = ap (λ (fs : List LocationFact). length fs) is.locations ∙ length-map-range_with_len (location_fact u s) 0 (length space)

  -- the first location of an object, or the very first
  pub first_or : 0 < length space → (key : ObjectKey) → unwrap_or (first_from 0 space key) 0 < location_count system
  first_or some key = by (first_from 0 space key) refl
    where
      by : (o : Option ℕ) → first_from 0 space key ≡ o → unwrap_or o 0 < location_count system
      by None e = let many = count_is in omega arith
      by (Some l) e = let less = first_below 0 space key l e in let many = count_is in omega arith

  pub one_fits : (a : Assignment) → Fits a → All Fits (a ∷ [])
  one_fits a h = All-cons Fits a [] h (All-nil Fits)

  pub copies_fit : (nodes : List Ctype) (to from : ℕ) → to + kept_count nodes ≤ none_row u s → from + kept_count nodes ≤ none_row u s → All Fits (copies nodes to from)
  copies_fit nodes to from a b =
      All-map Fits (λ i. Copy (kept_row to nodes i) (kept_row from nodes i)) (kept nodes)
      (λ k d lt.
      let i = get_or (kept nodes) k d in
      let few = kept_fewer nodes i in
      (row_in (from + kept_count (take i nodes)) (omega arith), row_in (to + kept_count (take i nodes)) (omega arith)))

  pub spreads_fit : (nodes : List Ctype) (to from : ℕ) → to + kept_count nodes ≤ none_row u s → from ≤ none_row u s → All Fits (spreads nodes to from)
  spreads_fit nodes to from a b =
      All-map Fits (λ i. Copy (kept_row to nodes i) from) (kept nodes)
      (λ k d lt.
      let i = get_or (kept nodes) k d in
      let few = kept_fewer nodes i in
      (row_in from b, row_in (to + kept_count (take i nodes)) (omega arith)))

  -- a type's nodes are those of a number
  abbrev pub AreKnown : List Ctype → ℕ → Type 0
  AreKnown nodes ty = (i : ℕ) → i < length nodes → IsNodeOf system ty i

  pub loads_fit : (nodes : List Ctype) (to pointer ty : ℕ) → to + kept_count nodes ≤ none_row u s → pointer ≤ none_row u s → AreKnown nodes ty → All Fits (loads nodes to pointer ty)
  loads_fit nodes to pointer ty a b known =
      All-map Fits (λ i. Load (kept_row to nodes i) pointer ty i) (kept nodes)
      (λ k d lt.
      let i = get_or (kept nodes) k d in
      let few = kept_fewer nodes i in
      let less = kept_below nodes (length nodes) (omega arith) k d lt in
      (row_in pointer b, row_in (to + kept_count (take i nodes)) (omega arith), known i less))

  pub stores_fit : (nodes : List Ctype) (pointer from ty : ℕ) → pointer ≤ none_row u s → from + kept_count nodes ≤ none_row u s → AreKnown nodes ty → All Fits (stores nodes pointer from ty)
  stores_fit nodes pointer from ty a b known =
      All-map Fits (λ i. Store pointer (kept_row from nodes i) ty i) (kept nodes)
      (λ k d lt.
      let i = get_or (kept nodes) k d in
      let few = kept_fewer nodes i in
      let less = kept_below nodes (length nodes) (omega arith) k d lt in
      (row_in pointer a, row_in (from + kept_count (take i nodes)) (omega arith), known i less))

  -- a value's rows
  pub value_fit : (v : ℕ) (t : Ctype) → sort_at u v ≡ ValueNode → type_at u v ≡ t → row u s v + kept_count (nodes_of p.types t) ≤ none_row u s
  value_fit v t sort type = by (slice_get p.nodes.items v) refl sort
    where
      by : (o : Option Node) → slice_get p.nodes.items v ≡ o → sort_in o ≡ ValueNode → row u s v + kept_count (nodes_of p.types t) ≤ none_row u s
      by None at e = cc
      by (Some node) at e = subst (λ (x : Ctype). row u s v + kept_count (nodes_of p.types x) ≤ none_row u s) type (value_fits u s v node at e)
