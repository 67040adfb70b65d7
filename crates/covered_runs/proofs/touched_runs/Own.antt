-- The cells that a node accesses in its step have locations that its function touches.
use Rattle.std.proofs.Common.{arith, ◌≡◌, ◌∙◌, inl, inr, ℕ, Bool, false, List, [], ◌∷◌, Option, Some, None, Ok, IsTrue, unwrap_or, slice_get, refl, sym, ap, subst}
use Rattle.std.proofs.lemmas.Bool.{false≢true}
use Rattle.c_types.specs.declared.key.ObjectKey.{ObjectKey}
use Rattle.c_types.specs.declared.key.ObjectKey.TheVariants.{Entity as EntityKey}
use Rattle.c_types.specs.declared.term.PathStep.{PathStep}
use Rattle.c_types.specs.declared.term.PathStep.TheVariants.{Index}
use Rattle.c_types.specs.Trees.{Ctype, VaListType}
use Rattle.c_types.specs.Table.{type_of}
use Rattle.core_tree.specs.declared.node.Entity.{Entity}
use Rattle.core_tree.specs.declared.node.Node.{Node}
use Rattle.core_tree.specs.declared.node.NodeKind.{NodeKind}
use Rattle.core_tree.specs.declared.node.NodeKind.TheVariants.{Fetch, Assign, Update, NextArg}
use Rattle.core_tree.specs.Rows.{RowOf}
use Rattle.core_tree.specs.Typed.{CoreTrees, PlaceNode, sort_at}
use Rattle.sol_model.specs.Families.{Family, Has}
use Rattle.sol_model.specs.Places.{sub_of}
use Rattle.obj_space.specs.View.{first_from, view_of}
use Rattle.row_numbers.specs.Functions.{number_of}
use Rattle.row_numbers.specs.Kept.{nodes_of}
use Rattle.row_numbers.specs.Numbers.{type_number}
use Rattle.row_numbers.specs.Objects.{entity_key}
use Rattle.row_numbers.specs.Setting.{list_row}
use Rattle.normal_form.specs.declared.normal.Assignment.TheVariants.{Load}
use Rattle.normal_form.specs.Assignments.{row_in, loads}
use Rattle.mod_ref.specs.declared.access.Access.{Access}
use Rattle.mod_ref.specs.declared.access.Access.TheVariants.{Read, Write}
use Rattle.mod_ref.specs.Direct.{place_of, accessed, takes_argument, IsInBody, IsOfEntity, NodeTouches}
use Rattle.ref_cells.specs.declared.cells.Cell.{Cell}
use Rattle.ref_cells.specs.declared.cells.Cell.TheVariants.{Pointer}
use Rattle.ref_cells.specs.declared.cells.Value.{Value}
use Rattle.ref_cells.specs.declared.instance.Instance.{Instance}
use Rattle.ref_cells.specs.Wholes.{is_allocated}
use Rattle.ref_mem.specs.Reads.{one_cell, read}
use Rattle.ref_places.specs.Places.{instance_of, whole_place, named_row}
use Rattle.ref_state.specs.Values.{cell_in}
use Rattle.covering_laws.specs.covered_memory.Spots.{spot, IsFurther}
use Rattle.covering_laws.specs.covered_memory.Covered.{CellIn, InstanceIn, MemoryIn}
use Rattle.covering_laws.specs.covered_rows.Nodes.{IsNode, PlaceIn}
use Rattle.covering_laws.specs.covered_state.World.{World, trees_of, view_in, sets_of, setting_in}
use Rattle.covering_laws.specs.covered_state.Items.{Each, NodeIn, IsOwned}
use Rattle.covering_laws.proofs.covered_memory.Access.{read_law, zero_kept}
use Rattle.covering_laws.proofs.covered_rows.Demanded.{by_value, load_says}
use Rattle.covering_laws.proofs.covered_rows.Lists.{first_has}
use Rattle.covering_laws.proofs.covered_rows.Targets.{function_there}
use Rattle.covered_runs.proofs.covered_steps.covered_values.Operands.{place_held}
use Rattle.covered_runs.proofs.covered_steps.covered_values.Places.{named_inv, typed_one}
use Rattle.covered_runs.specs.covered_steps.covered_statements.Runnable.{IsRunnable}
use Rattle.covered_runs.proofs.covered_steps.covered_effects.Needs.{function_first}
use Rattle.covered_runs.specs.touched_runs.Accesses.{IsNextOf, NodeAccesses, MayBeCell}
use Rattle.covered_runs.specs.touched_runs.Touched.{IsTouchOf, AreNumbered, IsTouchedBy}
use Rattle.covered_runs.proofs.touched_runs.Pointed.{instance_under, place_reached}

some_one : {X : Type 0} → {x y : X} → ◌≡◌ {A = Option X} (Some x) (Some y) → x ≡ y
some_one h = cc

none_some : {X : Type 0} → {x : X} → ◌≡◌ {A = Option X} None (Some x) → ⊥
none_some h = cc

same_instance : {i j : ℕ} → {p q : List PathStep} → {b c : Bool} → Pointer i p b ≡ Pointer j q c → i ≡ j
same_instance h = cc

-- a node's place is one
place_sort : (u : CoreTrees) (access : Access) (kind : NodeKind) (t : Ctype) (children : List ℕ) (p : ℕ) → RowOf u kind t children → place_of access kind children ≡ Some p → sort_at u p ≡ PlaceNode
place_sort u Read Fetch t [] p row e = absurd row
place_sort u Read Fetch t (q ∷ []) p row e = subst (λ (k : ℕ). sort_at u k ≡ PlaceNode) (some_one e) row.0.0
place_sort u Read Fetch t (q ∷ r ∷ rest) p row e = absurd row
place_sort u Write Assign t [] p row e = absurd row
place_sort u Write Assign t (q ∷ []) p row e = absurd row
place_sort u Write Assign t (q ∷ v ∷ []) p row e = subst (λ (k : ℕ). sort_at u k ≡ PlaceNode) (some_one e) row.0.0
place_sort u Write Assign t (q ∷ v ∷ r ∷ rest) p row e = absurd row
place_sort u Read (Update op post) t [] p row e = absurd row
place_sort u Read (Update op post) t (q ∷ []) p row e = absurd row
place_sort u Read (Update op post) t (q ∷ v ∷ []) p row e = subst (λ (k : ℕ). sort_at u k ≡ PlaceNode) (some_one e) row.0.0
place_sort u Read (Update op post) t (q ∷ v ∷ r ∷ rest) p row e = absurd row
place_sort u Write (Update op post) t [] p row e = absurd row
place_sort u Write (Update op post) t (q ∷ []) p row e = absurd row
place_sort u Write (Update op post) t (q ∷ v ∷ []) p row e = subst (λ (k : ℕ). sort_at u k ≡ PlaceNode) (some_one e) row.0.0
place_sort u Write (Update op post) t (q ∷ v ∷ r ∷ rest) p row e = absurd row
place_sort u Read NextArg t [] p row e = absurd row
place_sort u Read NextArg t (q ∷ []) p row e = subst (λ (k : ℕ). sort_at u k ≡ PlaceNode) (some_one e) row.0.0
place_sort u Read NextArg t (q ∷ r ∷ rest) p row e = absurd row
place_sort u Write NextArg t [] p row e = absurd row
place_sort u Write NextArg t (q ∷ []) p row e = subst (λ (k : ℕ). sort_at u k ≡ PlaceNode) (some_one e) row.0.0
place_sort u Write NextArg t (q ∷ r ∷ rest) p row e = absurd row
place_sort u access kind t children p row e = absurd (none_some e)

-- what takes an argument of a list
takes_next : (access : Access) (kind : NodeKind) → IsTrue (takes_argument access kind) → kind ≡ NextArg
takes_next Read NextArg h = refl
takes_next Read kind h = absurd (false≢true h)
takes_next Write kind h = absurd (false≢true h)

-- has the list as its one operand
next_children : (u : CoreTrees) (access : Access) (t : Ctype) (children : List ℕ) (p : ℕ) → RowOf u NextArg t children → place_of access NextArg children ≡ Some p → children ≡ p ∷ []
next_children u Read t [] p row e = absurd row
next_children u Read t (q ∷ []) p row e = ap (λ (k : ℕ). k ∷ []) (some_one e)
next_children u Read t (q ∷ r ∷ rest) p row e = absurd row
next_children u Write t [] p row e = absurd row
next_children u Write t (q ∷ []) p row e = ap (λ (k : ℕ). k ∷ []) (some_one e)
next_children u Write t (q ∷ r ∷ rest) p row e = absurd row

module _ (world : World) (runs : IsRunnable world) (memory : List Instance) (all : MemoryIn (sets_of world) memory) where
  -- the list that is read at the place of a node that takes from it is in the row of such lists
  list_there : (n q : ℕ) (t : Ctype) (place c : Cell) → IsNode (trees_of world) n NextArg t (q ∷ []) → PlaceIn (sets_of world) (setting_in world) memory q place → read world.program.types memory place VaListType ≡ Ok (one_cell c)
      → CellIn (sets_of world) memory (Some (list_row (trees_of world) (view_in world) n)) c
  list_there n q t place c node at e =
      (read_law (sets_of world) world.system runs.stands.grounds memory (row_in (setting_in world) q) place VaListType (λ i. list_row (trees_of world) (view_in world) n) (one_cell c) all at (omega arith)
      (λ i kept l m has sub. load_says world.program (view_of world.space) world.system world.is_system world.family runs.stands.closed (list_row (trees_of world) (view_in world) n) (row_in (setting_in world) q) 7 0
      (by_value world.program (view_of world.space) world.system world.is_system world.family runs.stands.closed n NextArg t (q ∷ []) node (Load (list_row (trees_of world) (view_in world) n) (row_in (setting_in world) q) 7 0)
      (first_has (Load (list_row (trees_of world) (view_in world) n) (row_in (setting_in world) q) 7 0)
      (loads (nodes_of world.program.types t) (row_in (setting_in world) n) (list_row (trees_of world) (view_in world) n) (type_number t)))) l m has
      (ap (λ (j : ℕ). sub_of world.system l 7 j) (sym (zero_kept (sets_of world) world.system runs.stands.grounds VaListType tt i kept)) ∙ sub)) e).0

  -- an object that a node fills
  filled_there : (own : List ℕ) (e i : ℕ) → instance_of memory own (EntityKey e) ≡ Some i → (inst : Instance) → slice_get memory i ≡ Some inst → inst.key ≡ EntityKey e
  unfolding named_row
  filled_there own e i is inst at =
      let row : named_row memory own (EntityKey e) ≡ Ok (Pointer i [] false) = ap whole_place is in
      let n = named_inv memory own (EntityKey e) (Pointer i [] false) row in
      let same : n.there.inst ≡ inst = some_one (sym n.there.inst_is ∙ (ap (slice_get memory) (same_instance n.cell_is) ∙ at)) in
      ap (λ (x : Instance). x.key) (sym same) ∙ n.there.key_is

  filled_under : (e i l : ℕ) (path : List PathStep) (c : MayBeCell world.program.types memory i (EntityKey e) path) → spot world.program.types world.space (EntityKey e) path ≡ Some l → IsOfEntity (setting_in world) world.system e l
  filled_under e i l path c lands =
      let inside : InstanceIn (sets_of world) memory c.inst = all i c.inst c.there in
      let typed = typed_one world runs.stands memory all c.inst inside (ap is_allocated c.key_is) (λ further. subst IsFurther c.key_is further) in
      let own_lands : spot world.program.types world.space c.inst.key path ≡ Some l = ap (λ (k : ObjectKey). spot world.program.types world.space k path) c.key_is ∙ lands in
      let under = instance_under (sets_of world) world.system runs.stands.grounds runs.stands.few memory all i c.inst c.there inside typed.0 typed.1 path l c.may_hold own_lands in
      let first : first_from 0 world.space (EntityKey e) ≡ Some inside.first = ap (first_from 0 world.space) (sym c.key_is) ∙ inside.first_is in
      let own = runs.objects e inside.first inside.location first inside.location_is in
      (inside.first, ap (λ (o : Option Entity). first_from 0 world.space (entity_key e o)) own.1 ∙ (ap (first_from 0 world.space) own.3 ∙ first), under)

  -- what a node accesses it touches
  module _ (own : List ℕ) (access : Access) (n : ℕ) (node : Node) (at : slice_get (trees_of world).nodes n ≡ Some node) (values : List (ℕ × Value)) (each : Each (λ v. NodeIn world memory v.0 v.1) values) where
    row : RowOf (trees_of world) node.kind (type_of world.program.types node.ty.0) node.children
    row = runs.stands.rows n node at

    abbrev t : Ctype
    t = type_of world.program.types node.ty.0

    held : (p : ℕ) → place_of access node.kind node.children ≡ Some p → PlaceIn (sets_of world) (setting_in world) memory p (cell_in values p)
    held p is = place_held world memory values each p (place_sort (trees_of world) access node.kind (type_of world.program.types node.ty.0) node.children p row is)

    taken_there : (p i l : ℕ) (path : List PathStep) → place_of access node.kind node.children ≡ Some p → (kind : node.kind ≡ NextArg) → IsNextOf world.program.types memory (cell_in values p) (accessed node.kind (type_of world.program.types node.ty.0)) i path
        → (key : ObjectKey) → MayBeCell world.program.types memory i key path → spot world.program.types world.space key path ≡ Some l → Has world.family (list_row (trees_of world) (view_in world) n) l
    taken_there p i l path is kind next key c lands =
        let row_next : RowOf (trees_of world) NextArg (type_of world.program.types node.ty.0) node.children =
        subst (λ (k : NodeKind). RowOf (trees_of world) k (type_of world.program.types node.ty.0) node.children) kind row in
        let children = next_children (trees_of world) access (type_of world.program.types node.ty.0) node.children p row_next (ap (λ (k : NodeKind). place_of access k node.children) (sym kind) ∙ is) in
        let is_node : IsNode (trees_of world) n NextArg (type_of world.program.types node.ty.0) (p ∷ []) = record { node = node; there = at; kind_is = kind; type_is = refl; children_are = children } in
        let read_is : read world.program.types memory (cell_in values p) VaListType ≡ Ok (one_cell (Pointer i (Index next.0 ∷ []) false)) =
        ap (λ (k : NodeKind). read world.program.types memory (cell_in values p) (accessed k (type_of world.program.types node.ty.0))) (sym kind) ∙ next.1 in
        let h = list_there n p (type_of world.program.types node.ty.0) (cell_in values p) (Pointer i (Index next.0 ∷ []) false) is_node (held p is) read_is in
        let same : h.inst ≡ c.inst = some_one (sym h.inst_is ∙ c.there) in
        let one : h.lands.location ≡ l =
        some_one (sym h.lands.found_is ∙ (ap (λ (x : Instance). spot world.program.types world.space x.key (Index next.0 ∷ [])) same
        ∙ (ap (λ (k : ObjectKey). spot world.program.types world.space k (Index next.0 ∷ [])) c.key_is ∙ (ap (spot world.program.types world.space key) (sym next.2) ∙ lands)))) in
        subst (λ (m : ℕ). Has world.family (list_row (trees_of world) (view_in world) n) m) one (subst (λ (r : ℕ). Has world.family r h.lands.location) (sym (some_one h.lands.row_is)) h.lands.has)

    pub node_touches : (i l : ℕ) (key : ObjectKey) (path : List PathStep) → NodeAccesses (trees_of world) memory own access node values i path → MayBeCell world.program.types memory i key path
        → spot world.program.types world.space key path ≡ Some l → NodeTouches (setting_in world) world.system world.family access n node l
    node_touches i l key path (inl (p, is, of)) c lands =
        inl (
          p,
          is,
          place_reached (sets_of world) world.system runs.stands.grounds runs.stands.few memory all (row_in (setting_in world) p) i l (cell_in values p) (accessed node.kind (type_of world.program.types node.ty.0)) path c.inst (held p is) of c.there c.may_hold
              (ap (λ (k : ObjectKey). spot world.program.types world.space k path) c.key_is ∙ lands),
        )
    node_touches i l key path (inr (inl (e, is, there))) c lands =
        let key_is = filled_there own e i there c.inst c.there in
        let same : key ≡ EntityKey e = sym c.key_is ∙ key_is in
        inr (inl (e, is, filled_under e i l path (subst (λ (k : ObjectKey). MayBeCell world.program.types memory i k path) same c) (ap (λ (k : ObjectKey). spot world.program.types world.space k path) (sym same) ∙ lands)))
    node_touches i l key path (inr (inr (p, is, takes, next))) c lands =
        inr (inr (takes, taken_there p i l path is (takes_next access node.kind takes) next key c lands))

-- a node of a function stands in its body
in_body : (world : World) (e n : ℕ) → AreNumbered world → IsOwned world (EntityKey e) n → IsInBody (setting_in world) world.system (number_of (trees_of world) (view_in world) e) n
in_body world e n numbered owned =
    let f = function_there world.program world.space world.system world.is_system (number_of (trees_of world) (view_in world) e) (EntityKey e) (numbered e n owned) in
    record { entity = e; around = owned; function = f.0; known = f.1; stands = first_is (function_first (trees_of world) (view_in world) (number_of (trees_of world) (view_in world) e) (EntityKey e) (numbered e n owned)) f.2.location }
  where
    first_is : (l : ℕ) × ((view_in world).first (EntityKey e) ≡ Some l) → {k : ℕ} → k ≡ unwrap_or ((view_in world).first (EntityKey e)) 0 → (view_in world).first (EntityKey e) ≡ Some k
    first_is (l, is) at = is ∙ ap (λ (m : ℕ). Some m) (sym (at ∙ ap (λ (o : Option ℕ). unwrap_or o 0) is))

-- so the function's set has the location
pub own_touched : (world : World) (access : Access) (touch : Family) (e n l : ℕ) (node : Node) → AreNumbered world → IsTouchOf world access touch → IsOwned world (EntityKey e) n → slice_get (trees_of world).nodes n ≡ Some node
    → NodeTouches (setting_in world) world.system world.family access n node l → IsTouchedBy world touch (EntityKey e) l
own_touched world access touch e n l node numbered closed owned at touches = record {
  number = number_of (trees_of world) (view_in world) e;
  function = numbered e n owned;
  has = closed.direct (number_of (trees_of world) (view_in world) e) l (inl (n, record { node = node; there = at; inside = in_body world e n numbered owned; touches = touches }));
}
