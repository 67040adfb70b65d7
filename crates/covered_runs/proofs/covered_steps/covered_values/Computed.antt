-- What each kind of node computes.
use Rattle.std.proofs.Common.{◌≡◌, ◌∙◌, inl, inr, ◌⊎◌, ℕ, ℤ, Bool, true, false, cond, ◌&&◌, List, [], ◌∷◌, Option, Some, Result, Ok, Err, slice_get, refl, sym, ap, subst}
use Rattle.std.proofs.lemmas.List.Elements.{Contains-append_left}
use Rattle.c_types.specs.declared.key.ObjectKey.TheVariants.{Entity as EntityKey, Text as TextKey}
use Rattle.c_types.specs.Trees.{Ctype, VaListType, PointerTo, StructureOf}
use Rattle.c_types.specs.Table.{Table, type_of}
use Rattle.type_rules.specs.Kinds.{IsInteger, IsPointer, IsList}
use Rattle.type_rules.specs.Sizes.{PointsToObject}
use Rattle.core_tree.specs.declared.node.Node.{Node}
use Rattle.core_tree.specs.declared.node.Op.{Op}
use Rattle.core_tree.specs.declared.node.NodeKind.{NodeKind}
use Rattle.core_tree.specs.declared.node.NodeKind.TheVariants.{Named, Text, Literal, FunctionName, Deref, Member, Number, NullValue, Fetch, AddressOf, Decay, PointerAdd, Convert, Upcast, Assign, Update, Sequence, MemberOfValue, VarArgs, Arith}
use Rattle.core_tree.specs.declared.node.Program.{Program}
use Rattle.core_tree.specs.Rows.{RowOf, Updates, place_bits}
use Rattle.core_tree.specs.Typed.{CoreTrees, NoNode, PlaceNode, ValueNode, sort_of, sort_at, type_in, type_at}
use Rattle.core_tree.specs.Valid.{IsLiteral}
use Rattle.obj_space.specs.View.{view_of}
use Rattle.row_numbers.specs.Kept.{nodes_of, kept_row}
use Rattle.row_numbers.specs.Numbers.{type_number}
use Rattle.row_numbers.specs.Objects.{entity_key}
use Rattle.row_numbers.specs.Setting.{Setting}
use Rattle.ref_cells.specs.declared.cells.Reason.{Reason}
use Rattle.ref_cells.specs.declared.cells.Reason.TheVariants.{Unset as UnsetUse, Mismatch}
use Rattle.ref_cells.specs.declared.cells.Cell.{Cell}
use Rattle.ref_cells.specs.declared.cells.Cell.TheVariants.{Number as NumberCell, Null, Pointer, Function, Unset}
use Rattle.ref_cells.specs.declared.cells.Value.{Value}
use Rattle.ref_cells.specs.declared.instance.Instance.{Instance}
use Rattle.ref_cells.specs.Cells.{CellList}
use Rattle.ref_cells.specs.Wholes.{is_allocated}
use Rattle.ref_mem.specs.Reads.{read, one_cell}
use Rattle.ref_mem.specs.Writes.{write}
use Rattle.ref_elements.specs.Outcomes.{Effect, Effected, gives, stores_and_gives}
use Rattle.ref_state.specs.Values.{cell_of, value_in, cell_in}
use Rattle.ref_places.specs.Places.{named_row, varargs_row, decay_row, upcast_row}
use Rattle.ref_values.specs.Memory.{stores_at, is_minus, pointer_moved, cell_updated, update_row}
use Rattle.ref_values.specs.Values.{cell_given, number_given, one_row, two_row, lacks, uses_all, gives_cell, cell_computed, one_computed, two_computed, value_computed, one_of, computed_by, computed}
use Rattle.normal_form.specs.Assignments.{row_in, copies, stores}
use Rattle.covering_laws.specs.covered_types.Whole.{IsHeld, HasValue}
use Rattle.covering_laws.specs.covered_memory.Spots.{IsFurther}
use Rattle.covering_laws.specs.covered_memory.Covered.{Sets, CellIn, MemoryIn, Leaves}
use Rattle.covering_laws.proofs.covered_memory.Stays.{value_stays}
use Rattle.covering_laws.specs.covered_library.Calls.{StoresIn}
use Rattle.covering_laws.specs.covered_rows.Nodes.{IsNode, node_row, PlaceIn, HeldIn}
use Rattle.covering_laws.proofs.covered_rows.Demanded.{by_value, stores_say}
use Rattle.covering_laws.proofs.covered_rows.Values.{of_held, fetch_in, assign_in, sequence_in, update_in}
use Rattle.covering_laws.proofs.covered_rows.Places.{held_cell, cell_held, named_in, literal_in, text_in, function_in, deref_in, address_in, add_in}
use Rattle.covering_laws.proofs.covered_rows.Nexts.{varargs_in}
use Rattle.covering_laws.specs.covered_state.World.{World, trees_of, sets_of, setting_in}
use Rattle.covering_laws.specs.covered_state.Items.{Each, NodeIn}
use Rattle.covered_runs.specs.covered_steps.covered_values.Values.{Stands, IsFound, MayType, GoesBack, IsComputed, ValuesCovered}
use Rattle.covered_runs.proofs.covered_steps.covered_values.Operands.{ok_one, err_ok, went, place_held, value_held, value_held_by, place_node, value_node, given_so, cell_so}
use Rattle.covered_runs.proofs.covered_steps.covered_values.Places.{named_inv, varargs_inv, entity_free, entity_plain, lasting_key, deref_inv, node_there, typed_one}
use Rattle.covered_runs.proofs.covered_steps.covered_values.Pointers.{pointer_in}
use Rattle.covered_runs.proofs.covered_steps.covered_values.Fetched.{integer_out, read_one, write_back, written, integer_written, pointer_written}
use Rattle.covered_runs.proofs.covered_steps.covered_values.Converts.{convert_node}
use Rattle.covered_runs.proofs.covered_steps.covered_values.Members.{first_inv, pointer_held, member_node, decay_node, upcast_node, taken_node, taken_inv}

place_no : PlaceNode ≡ NoNode → ⊥
place_no h = cc

value_no : ValueNode ≡ NoNode → ⊥
value_no h = cc

points_inv : (table : Table) (t : Ctype) → PointsToObject table t → (to : Ctype) × (t ≡ PointerTo to)
points_inv table (PointerTo to) h = (to, refl)
points_inv table t h = absurd h

pointer_inv : (t : Ctype) → IsPointer t → (to : Ctype) × (t ≡ PointerTo to)
pointer_inv (PointerTo to) h = (to, refl)
pointer_inv t h = absurd h

list_inv : (t : Ctype) → IsList t → t ≡ VaListType
list_inv VaListType h = refl
list_inv t h = absurd h

-- a number that is put there is no pointer
no_stores : (g : Sets) (after : List Instance) (place : Cell) (k : ℤ) → StoresIn g after (stores_at place (([], NumberCell k) ∷ []))
no_stores g after (Pointer i path past) k = tt
no_stores g after Null k = tt
no_stores g after Unset k = tt
no_stores g after (NumberCell n) k = tt
no_stores g after (Function key) k = tt

module _ (world : World) (stands : Stands world) (memory : List Instance) (all : MemoryIn (sets_of world) memory) (own : List ℕ) (n : ℕ) (node : Node) (there : slice_get (trees_of world).nodes n ≡ Some node)
    (values : List (ℕ × Value)) (each : Each (λ v. NodeIn world memory v.0 v.1) values) (word : ℕ) (e : Effected) where
  abbrev p : Program
  p = world.program

  abbrev u : CoreTrees
  u = trees_of world

  abbrev g : Sets
  g = sets_of world

  abbrev w : Setting
  w = setting_in world

  abbrev t : Ctype
  t = type_of world.program.types node.ty.0

  own_type : type_at u n ≡ type_of p.types node.ty.0
  own_type = ap (type_in p.types) there

  is_node : (kind : NodeKind) → node.kind ≡ kind → (children : List ℕ) → node.children ≡ children → IsNode u n kind (type_of p.types node.ty.0) children
  is_node kind k children c = record { node = node; there = there; kind_is = k; type_is = refl; children_are = c }

  may_hold : IsHeld p.types (type_of p.types node.ty.0) → IsHeld p.types (type_at u n)
  may_hold h = subst (IsHeld p.types) (sym own_type) h

  -- a node that gives one cell
  one_so : (kind : NodeKind) → node.kind ≡ kind → sort_of kind ≡ ValueNode → IsHeld p.types (type_of p.types node.ty.0) → (c : Cell) → HeldIn g w memory n (one_cell c) → NodeIn world memory n (one_cell c)
  one_so kind k s held c h = value_node world memory n node there kind k s (one_cell c) h (inr (may_hold held))

  -- names
  named_so : (i : ℕ) → node.kind ≡ Named i → (children : List ℕ) → node.children ≡ children → computed_by u memory own n node.ty (Named i) children values word ≡ Ok e → IsComputed world memory n e
  named_so i k children c x = cell_so world memory all n (named_row memory own (entity_key i (slice_get u.entities i))) e x (λ cell f. place_node world memory n node there (Named i) k refl cell (at cell f))
    where
      at : (cell : Cell) → named_row memory own (entity_key i (slice_get u.entities i)) ≡ Ok cell → PlaceIn g w memory n cell
      at cell f =
          let inv = named_inv memory own (entity_key i (slice_get u.entities i)) cell f in
          let inside = all inv.i inv.there.inst inv.there.inst_is in
          let typed = typed_one world stands memory all inv.there.inst inside (ap is_allocated inv.there.key_is ∙ entity_free i (slice_get u.entities i))
          (λ f. entity_plain i (slice_get u.entities i) (subst IsFurther inv.there.key_is f)) in
          subst (PlaceIn g w memory n) inv.cell_is
          (named_in p world.space world.system world.is_system world.family stands.closed stands.grounds n i t children (is_node (Named i) k children c) memory inv.i inv.there.inst typed.0 inv.there.inst_is inside inv.there.key_is typed.1)

  literal_so : (i : ℕ) → node.kind ≡ Literal i → (children : List ℕ) → node.children ≡ children → IsLiteral u n (Literal i) → computed_by u memory own n node.ty (Literal i) children values word ≡ Ok e → IsComputed world memory n e
  literal_so i k children c lit x = cell_so world memory all n (named_row memory own (EntityKey i)) e x (λ cell f. place_node world memory n node there (Literal i) k refl cell (at cell f))
    where
      at : (cell : Cell) → named_row memory own (EntityKey i) ≡ Ok cell → PlaceIn g w memory n cell
      at cell f =
          let inv = named_inv memory own (EntityKey i) cell f in
          let inside = all inv.i inv.there.inst inv.there.inst_is in
          let typed = typed_one world stands memory all inv.there.inst inside (ap is_allocated inv.there.key_is) (λ f. subst IsFurther inv.there.key_is f) in
          subst (PlaceIn g w memory n) inv.cell_is
          (literal_in p world.space world.system world.is_system world.family stands.closed stands.grounds n i t children (is_node (Literal i) k children c) memory inv.i inv.there.inst typed.0 inv.there.inst_is inside
          (inv.there.key_is ∙ sym (lasting_key i (slice_get u.entities i) lit.0)) typed.1)

  text_so : (bytes : List ℕ) → node.kind ≡ Text bytes → (children : List ℕ) → node.children ≡ children → computed_by u memory own n node.ty (Text bytes) children values word ≡ Ok e → IsComputed world memory n e
  text_so bytes k children c x = cell_so world memory all n (named_row memory own (TextKey n)) e x (λ cell f. place_node world memory n node there (Text bytes) k refl cell (at cell f))
    where
      at : (cell : Cell) → named_row memory own (TextKey n) ≡ Ok cell → PlaceIn g w memory n cell
      at cell f =
          let inv = named_inv memory own (TextKey n) cell f in
          let inside = all inv.i inv.there.inst inv.there.inst_is in
          let typed = typed_one world stands memory all inv.there.inst inside (ap is_allocated inv.there.key_is) (λ f. subst IsFurther inv.there.key_is f) in
          subst (PlaceIn g w memory n) inv.cell_is
          (text_in p world.space world.system world.is_system world.family stands.closed stands.grounds n bytes t children (is_node (Text bytes) k children c) memory inv.i inv.there.inst typed.0 inv.there.inst_is inside
          inv.there.key_is typed.1)

  -- the list of what a function is passed past its parameters
  varargs_so : (i : ℕ) → node.kind ≡ VarArgs i → (children : List ℕ) → node.children ≡ children → IsList (type_of p.types node.ty.0) → IsHeld p.types (type_of p.types node.ty.0)
      → computed_by u memory own n node.ty (VarArgs i) children values word ≡ Ok e → IsComputed world memory n e
  varargs_so i k children c list held x = cell_so world memory all n (varargs_row memory own i) e x (λ cell f. one_so (VarArgs i) k refl held cell (at cell f))
    where
      at : (cell : Cell) → varargs_row memory own i ≡ Ok cell → HeldIn g w memory n (one_cell cell)
      at cell f =
          let inv = varargs_inv memory own i cell f in
          subst (λ (y : Cell). HeldIn g w memory n (one_cell y)) inv.2
          (varargs_in p world.space world.system world.is_system world.family stands.closed stands.grounds n i t children (is_node (VarArgs i) k children c) (own_type ∙ list_inv t list) memory inv.0 inv.1.inst inv.1.inst_is
          (all inv.0 inv.1.inst inv.1.inst_is) inv.1.key_is)

  function_so : (i : ℕ) → node.kind ≡ FunctionName i → (children : List ℕ) → node.children ≡ children → IsFound world (FunctionName i) → computed_by u memory own n node.ty (FunctionName i) children values word ≡ Ok e
      → IsComputed world memory n e
  function_so i k children c found x =
      cell_so world memory all n (Ok (Function (entity_key i (slice_get u.entities i)))) e x
      (λ cell f. place_node world memory n node there (FunctionName i) k refl cell
      (subst (PlaceIn g w memory n) (ok_one f)
      (function_in p world.space world.system world.is_system world.family stands.closed stands.grounds n i found.0 t children (is_node (FunctionName i) k children c) found.1 memory)))

  -- places over one operand
  deref_so : (v : ℕ) → node.kind ≡ Deref → node.children ≡ v ∷ [] → RowOf u Deref (type_of p.types node.ty.0) (v ∷ []) → computed_by u memory own n node.ty Deref (v ∷ []) values word ≡ Ok e → IsComputed world memory n e
  deref_so v k c row x =
      cell_so world memory all n (cell_computed u memory own n Deref (v ∷ []) values) e x
      (λ cell f. place_node world memory n node there Deref k refl cell
      (subst (PlaceIn g w memory n) (deref_inv (cell_in values v) cell f)
      (deref_in p world.space world.system world.is_system world.family stands.closed stands.grounds n v t t (is_node Deref k (v ∷ []) c) row.0.1 memory (cell_in values v)
      (pointer_held world memory v t (value_in values v) row.0.1 (value_held world memory values each v row.0.0)))))

  member_so : (i q : ℕ) → node.kind ≡ Member i → node.children ≡ q ∷ [] → RowOf u (Member i) (type_of p.types node.ty.0) (q ∷ []) → computed_by u memory own n node.ty (Member i) (q ∷ []) values word ≡ Ok e → IsComputed world memory n e
  member_so i q k c row x =
      let place = node_there world q (λ s. place_no (sym row.0 ∙ s)) in
      cell_so world memory all n (cell_computed u memory own n (Member i) (q ∷ []) values) e x
      (λ cell f. place_node world memory n node there (Member i) k refl cell
      (member_node world stands memory all n q i t (type_at u q) (is_node (Member i) k (q ∷ []) c) place.0 place.1 refl row.1 row.2 (cell_in values q) cell (place_held world memory values each q row.0) f))

  -- values over one operand
  fetch_so : (q : ℕ) → node.kind ≡ Fetch → node.children ≡ q ∷ [] → RowOf u Fetch (type_of p.types node.ty.0) (q ∷ []) → computed_by u memory own n node.ty Fetch (q ∷ []) values word ≡ Ok e → IsComputed world memory n e
  fetch_so q k c row x =
      let whole = stands.whole.stored n node there (ap sort_of k) row.1 in
      let r = went (read p.types memory (cell_in values q) t) (λ v. gives memory v) e x in
      given_so world memory all n r.0 e r.2
      (value_node world memory n node there Fetch k refl r.0
      (fetch_in p world.space world.system world.is_system world.family stands.closed stands.grounds n t whole q (is_node Fetch k (q ∷ []) c) memory (cell_in values q) r.0 all (place_held world memory values each q row.0.0) r.1)
      (inr (may_hold (inr whole))))

  address_so : (q : ℕ) → node.kind ≡ AddressOf → node.children ≡ q ∷ [] → RowOf u AddressOf (type_of p.types node.ty.0) (q ∷ []) → IsHeld p.types (type_of p.types node.ty.0)
      → computed_by u memory own n node.ty AddressOf (q ∷ []) values word ≡ Ok e → IsComputed world memory n e
  address_so q k c row held x =
      given_so world memory all n (one_cell (cell_in values q)) e x
      (one_so AddressOf k refl held (cell_in values q)
      (address_in p world.space world.system world.is_system world.family stands.closed stands.grounds n q t (type_at u q) (is_node AddressOf k (q ∷ []) c) (own_type ∙ row.1) memory (cell_in values q)
      (place_held world memory values each q row.0)))

  decay_so : (q : ℕ) → node.kind ≡ Decay → node.children ≡ q ∷ [] → RowOf u Decay (type_of p.types node.ty.0) (q ∷ []) → IsHeld p.types (type_of p.types node.ty.0)
      → computed_by u memory own n node.ty Decay (q ∷ []) values word ≡ Ok e → IsComputed world memory n e
  decay_so q k c row held x =
      cell_so world memory all n (decay_row p.types memory (cell_in values q) (type_at u q)) e x
      (λ cell f. one_so Decay k refl held cell (decay_node world stands memory all n q t (is_node Decay k (q ∷ []) c) row.1 (cell_in values q) cell (place_held world memory values each q row.0) f))

  upcast_so : (v : ℕ) → node.kind ≡ Upcast → node.children ≡ v ∷ [] → RowOf u Upcast (type_of p.types node.ty.0) (v ∷ []) → IsHeld p.types (type_of p.types node.ty.0)
      → computed_by u memory own n node.ty Upcast (v ∷ []) values word ≡ Ok e → IsComputed world memory n e
  upcast_so v k c row held x =
      let up = first_inv p.types (type_at u v) t row.1 in
      let place = node_there world v (λ s. value_no (sym row.0 ∙ s)) in
      let h = pointer_held world memory v (StructureOf up.tag) (value_in values v) up.from (value_held world memory values each v row.0) in
      cell_so world memory all n (upcast_row p.types memory (cell_in values v) (type_at u v)) e x
      (λ cell f. one_so Upcast k refl held cell
      (upcast_node world stands memory all n v t (is_node Upcast k (v ∷ []) c) place.0 place.1 up (cell_in values v) cell h
      (held_cell p world.space world.system world.is_system world.family stands.closed stands.grounds v (StructureOf up.tag) memory (cell_in values v) up.from h)
      (subst (λ (s : Ctype). upcast_row p.types memory (cell_in values v) s ≡ Ok cell) up.from f)))

  convert_so : (v : ℕ) → node.kind ≡ Convert → node.children ≡ v ∷ [] → RowOf u Convert (type_of p.types node.ty.0) (v ∷ []) → IsHeld p.types (type_of p.types node.ty.0) → MayType world memory (cell_in values v) node.ty
      → computed_by u memory own n node.ty Convert (v ∷ []) values word ≡ Ok e → IsComputed world memory n e
  convert_so v k c row held may x =
      convert_node world stands memory all n v node there k c held own_type word (cell_in values v) may row.2
      (λ to tv. pointer_held world memory v to (value_in values v) tv (value_held world memory values each v row.0)) e x

  taken_so : (i v : ℕ) → node.kind ≡ MemberOfValue i → node.children ≡ v ∷ [] → RowOf u (MemberOfValue i) (type_of p.types node.ty.0) (v ∷ []) → IsHeld p.types (type_of p.types node.ty.0)
      → computed_by u memory own n node.ty (MemberOfValue i) (v ∷ []) values word ≡ Ok e → IsComputed world memory n e
  taken_so i v k c row held x =
      let place = node_there world v (λ s. value_no (sym row.0 ∙ s)) in
      given_so world memory all n _ e (taken_inv world stands memory all (type_at u v) i (value_in values v).cells e x)
      (value_node world memory n node there (MemberOfValue i) k refl _
      (taken_node world stands memory all n i v t (is_node (MemberOfValue i) k (v ∷ []) c) place.0 place.1 row.2 (value_in values v) (value_held world memory values each v row.0) row.1)
      (inr (may_hold held)))

  -- numbers
  number_so : (op : Op) → node.kind ≡ Arith op → IsHeld p.types (type_of p.types node.ty.0) → (r : Result ℤ Reason) → number_given memory r ≡ Ok e → IsComputed world memory n e
  number_so op k held r x =
      let q = went r (λ z. gives memory (one_cell (NumberCell z))) e x in
      given_so world memory all n (one_cell (NumberCell q.0)) e q.2 (one_so (Arith op) k refl held (NumberCell q.0) (tt, tt))

  -- values over two operands
  add_so : (minus : Bool) (v i : ℕ) → node.kind ≡ PointerAdd minus → node.children ≡ v ∷ i ∷ [] → RowOf u (PointerAdd minus) (type_of p.types node.ty.0) (v ∷ i ∷ []) → IsHeld p.types (type_of p.types node.ty.0)
      → computed_by u memory own n node.ty (PointerAdd minus) (v ∷ i ∷ []) values word ≡ Ok e → IsComputed world memory n e
  add_so minus v i k c row held x =
      let to = points_inv p.types t row.1 in
      let ty : type_at u n ≡ PointerTo to.0 = own_type ∙ to.1 in
      let tv : type_at u v ≡ PointerTo to.0 = row.0.1 ∙ to.1 in
      let from = add_in p world.space world.system world.is_system world.family stands.closed stands.grounds n v i minus t to.0 to.0 (is_node (PointerAdd minus) k (v ∷ i ∷ []) c) ty tv memory (cell_in values v)
      (pointer_held world memory v to.0 (value_in values v) tv (value_held world memory values each v row.0.0)) in
      cell_so world memory all n (pointer_moved p.types memory (cell_in values v) minus (cell_in values i)) e x
      (λ cell f. one_so (PointerAdd minus) k refl held cell
      (cell_held p world.space world.system world.is_system world.family stands.closed stands.grounds n to.0 memory cell ty
      (pointer_in g memory (Some (row_in w n)) (cell_in values v) minus (cell_in values i) cell
      (held_cell p world.space world.system world.is_system world.family stands.closed stands.grounds n to.0 memory (cell_in values v) ty from) f)))

  -- what is stored and given
  stored_so : (kind : NodeKind) → node.kind ≡ kind → sort_of kind ≡ ValueNode → IsHeld p.types (type_of p.types node.ty.0) → (after : List Instance) (v : Value) (list : List (Cell × Cell)) → stores_and_gives after v list ≡ Ok e
      → Leaves g memory after → GoesBack memory after → HeldIn g w after n v → StoresIn g after list → IsComputed world memory n e
  stored_so kind k s held after v list x left back h puts =
      subst (IsComputed world memory n) (ok_one x) (record { leaves = left; before = back; value = value_node world after n node there kind k s v h (inr (may_hold held)); stores = puts })

  assign_so : (q v : ℕ) → node.kind ≡ Assign → node.children ≡ q ∷ v ∷ [] → RowOf u Assign (type_of p.types node.ty.0) (q ∷ v ∷ []) → computed_by u memory own n node.ty Assign (q ∷ v ∷ []) values word ≡ Ok e → IsComputed world memory n e
  assign_so q v k c row x =
      let whole = stands.whole.stored n node there (ap sort_of k) row.2 in
      let is = is_node Assign k (q ∷ v ∷ []) c in
      let place = cell_in values q in
      let value = value_in values v in
      let at = place_held world memory values each q row.0.0 in
      let h = value_held world memory values each v row.1.0 in
      let r = went (write p.types memory place t value) (λ after. stores_and_gives after value (stores_at place value.cells)) e x in
      let both = assign_in p world.space world.system world.is_system world.family stands.closed stands.grounds n t whole q v is row.1.1 memory r.0 place value all at h r.1 in
      let put = written g world.system stands.grounds memory (row_in w q) place t (kept_row (row_in w v) (nodes_of p.types t)) value r.0 all at whole.few
      (stores_say p (view_of world.space) world.system world.is_system world.family stands.closed t (row_in w q) (row_in w v) (type_number t)
      (λ a m. by_value p (view_of world.space) world.system world.is_system world.family stands.closed n Assign t (q ∷ v ∷ []) is a
      (Contains-append_left (stores (nodes_of p.types t) (row_in w q) (row_in w v) (type_number t)) (copies (nodes_of p.types t) (row_in w n) (row_in w v)) a m)))
      (of_held p world.space world.system world.is_system world.family stands.closed stands.grounds v t memory value row.1.1 h) r.1 in
      stored_so Assign k refl (inr whole) r.0 value (stores_at place value.cells) r.2 both.0 (write_back g world.system stands.grounds memory place t value r.0 r.1) both.1 put.1

  -- an update that went well
  record IsUpdated (op : Op) (post : Bool) (q v : ℕ) : Type 0 where
    pub old : Value
    pub old_is : read p.types memory (cell_in values q) (type_of p.types node.ty.0) ≡ Ok old
    pub new : Cell
    pub new_is : cell_updated p.types memory (type_of p.types node.ty.0) op (place_bits u (slice_get u.nodes q)) (cell_of old) (type_at u v) (cell_in values v) ≡ Ok new
    pub after : List Instance
    pub after_is : write p.types memory (cell_in values q) (type_of p.types node.ty.0) (one_cell new) ≡ Ok after
    pub given : stores_and_gives after (cond post (one_cell (cell_of old)) (one_cell new)) (stores_at (cell_in values q) (([], new) ∷ [])) ≡ Ok e

  updated_inv : (op : Op) (post : Bool) (q v : ℕ) → update_row p.types memory (cell_in values q) (type_of p.types node.ty.0) op post (place_bits u (slice_get u.nodes q)) (type_at u v) (cell_in values v) ≡ Ok e
      → IsUpdated op post q v
  unfolding update_row
  updated_inv op post q v x =
      let a = went (read p.types memory (cell_in values q) t) _ e x in
      let b = went (cell_updated p.types memory t op (place_bits u (slice_get u.nodes q)) (cell_of a.0) (type_at u v) (cell_in values v)) _ e a.2 in
      let c = went (write p.types memory (cell_in values q) t (one_cell b.0)) _ e b.2 in
      record { old = a.0; old_is = a.1; new = b.0; new_is = b.1; after = c.0; after_is = c.1; given = c.2 }

  number_held : (m : List Instance) (post : Bool) (old new : Cell) (x y : ℤ) → old ≡ NumberCell x → NumberCell y ≡ new → HeldIn g w m n (cond post (one_cell old) (one_cell new))
  number_held m true old new x y before after = subst (λ (c : Cell). HeldIn g w m n (one_cell c)) (sym before) (tt, tt)
  number_held m false old new x y before after = subst (λ (c : Cell). HeldIn g w m n (one_cell c)) after (tt, tt)

  update_number : (op : Op) (post : Bool) (q v : ℕ) → node.kind ≡ Update op post → sort_at u q ≡ PlaceNode → IsInteger (type_of p.types node.ty.0) → IsHeld p.types (type_of p.types node.ty.0) → IsUpdated op post q v → IsComputed world memory n e
  update_number op post q v k place integer held up =
      let numbers = integer_out p.types memory t integer op (place_bits u (slice_get u.nodes q)) (cell_of up.old) (type_at u v) (cell_in values v) up.new up.new_is in
      let left = integer_written g world.system stands.grounds memory (row_in w q) (cell_in values q) t numbers.after up.after integer all (place_held world memory values each q place)
      (subst (λ (c : Cell). write p.types memory (cell_in values q) t (one_cell c) ≡ Ok up.after) (sym numbers.after_is) up.after_is) in
      stored_so (Update op post) k refl held up.after (cond post (one_cell (cell_of up.old)) (one_cell up.new)) (stores_at (cell_in values q) (([], up.new) ∷ [])) up.given left
      (write_back g world.system stands.grounds memory (cell_in values q) t (one_cell up.new) up.after up.after_is)
      (number_held up.after post (cell_of up.old) up.new numbers.before numbers.after numbers.before_is numbers.after_is)
      (subst (λ (c : Cell). StoresIn g up.after (stores_at (cell_in values q) (([], c) ∷ []))) numbers.after_is (no_stores g up.after (cell_in values q) numbers.after))

  either_held : (m : List Instance) (post : Bool) (old new : Cell) → HeldIn g w m n (one_cell old) → HeldIn g w m n (one_cell new) → HeldIn g w m n (cond post (one_cell old) (one_cell new))
  either_held m true old new a b = a
  either_held m false old new a b = b

  update_pointer : (op : Op) (post : Bool) (q v : ℕ) (to : Ctype) → node.kind ≡ Update op post → node.children ≡ q ∷ v ∷ [] → sort_at u q ≡ PlaceNode → type_of p.types node.ty.0 ≡ PointerTo to
      → IsHeld p.types (type_of p.types node.ty.0) → IsUpdated op post q v → IsComputed world memory n e
  update_pointer op post q v to k c sort is held up =
      let place = cell_in values q in
      let at = place_held world memory values each q sort in
      let old = cell_of up.old in
      let read_is : read p.types memory place (PointerTo to) ≡ Ok up.old = subst (λ (s : Ctype). read p.types memory place s ≡ Ok up.old) is up.old_is in
      let write_is : write p.types memory place (PointerTo to) (one_cell up.new) ≡ Ok up.after = subst (λ (s : Ctype). write p.types memory place s (one_cell up.new) ≡ Ok up.after) is up.after_is in
      let moved_is : pointer_moved p.types memory old (is_minus op) (cell_in values v) ≡ Ok up.new =
      subst (λ (s : Ctype). cell_updated p.types memory s op (place_bits u (slice_get u.nodes q)) old (type_at u v) (cell_in values v) ≡ Ok up.new) is up.new_is in
      let one = read_one g world.system stands.grounds memory place (PointerTo to) tt up.old read_is in
      let ty : type_at u n ≡ PointerTo to = own_type ∙ is in
      let node_is : IsNode u n (Update op post) (PointerTo to) (q ∷ v ∷ []) = record { node = node; there = there; kind_is = k; type_is = is; children_are = c } in
      let before : HeldIn g w memory n (one_cell old) = subst (HeldIn g w memory n) one
      (update_in p world.space world.system world.is_system world.family stands.closed stands.grounds n q v op post to node_is memory place up.old all at read_is) in
      let moves : (row : Option ℕ) → CellIn g memory row old → CellIn g memory row up.new = λ row h. pointer_in g memory row old (is_minus op) (cell_in values v) up.new h moved_is in
      let behind : HeldIn g w memory n (one_cell up.new) =
      cell_held p world.space world.system world.is_system world.family stands.closed stands.grounds n to memory up.new ty
      (moves (Some (row_in w n)) (held_cell p world.space world.system world.is_system world.family stands.closed stands.grounds n to memory old ty before)) in
      let left = pointer_written g world.system stands.grounds memory place (PointerTo to) tt old up.new up.after (row_in w q) all at moves
      (subst (λ (v : Value). read p.types memory place (PointerTo to) ≡ Ok v) one read_is) write_is in
      let stay : (c : Cell) → HeldIn g w memory n (one_cell c) → HeldIn g w up.after n (one_cell c) = λ c h. value_stays g memory up.after left.0.extends (node_row w n) (type_at u n) (one_cell c) h in
      stored_so (Update op post) k refl held up.after (cond post (one_cell old) (one_cell up.new)) (stores_at place (([], up.new) ∷ [])) up.given left.0
      (write_back g world.system stands.grounds memory place t (one_cell up.new) up.after up.after_is)
      (either_held up.after post old up.new (stay old before) (stay up.new behind)) left.1

  update_so : (op : Op) (post : Bool) (q v : ℕ) → node.kind ≡ Update op post → node.children ≡ q ∷ v ∷ [] → RowOf u (Update op post) (type_of p.types node.ty.0) (q ∷ v ∷ []) → IsHeld p.types (type_of p.types node.ty.0)
      → computed_by u memory own n node.ty (Update op post) (q ∷ v ∷ []) values word ≡ Ok e → IsComputed world memory n e
  update_so op post q v k c row held x = by row.2 (updated_inv op post q v x)
    where
      by : Updates op (type_of p.types node.ty.0) → IsUpdated op post q v → IsComputed world memory n e
      by (inl integer) up = update_number op post q v k row.0.0 integer.0 held up
      by (inr pointer) up = let to = pointer_inv t pointer.0 in update_pointer op post q v to.0 k c row.0.0 to.1 held up

  sequence_so : (a b : ℕ) → node.kind ≡ Sequence → node.children ≡ a ∷ b ∷ [] → RowOf u Sequence (type_of p.types node.ty.0) (a ∷ b ∷ []) → computed_by u memory own n node.ty Sequence (a ∷ b ∷ []) values word ≡ Ok e
      → IsComputed world memory n e
  sequence_so a b k c row x = given_so world memory all n (value_in values b) e x (by (value_held_by world memory values each b row.1.0))
    where
      by : ((value_in values b).cells ≡ []) ⊎ IsHeld p.types (type_at u b) → NodeIn world memory n (value_in values b)
      by (inl none) =
          value_node world memory n node there Sequence k refl (value_in values b)
          (empty (type_at u n) (value_in values b).cells none) (inl none)
        where
          empty : (s : Ctype) (cells : CellList) → cells ≡ [] → HeldIn g w memory n (record { cells = cells })
          empty s cells is = subst (λ (cs : CellList). HeldIn g w memory n (record { cells = cs })) (sym is) tt
      by (inr held) =
          let may : IsHeld p.types t = subst (IsHeld p.types) row.1.1 held in
          value_node world memory n node there Sequence k refl (value_in values b)
          (sequence_in p world.space world.system world.is_system world.family stands.closed stands.grounds n t may a b (is_node Sequence k (a ∷ b ∷ []) c) row.1.1 memory (value_in values b)
          (value_held world memory values each b row.1.0)) (inr (may_hold may))

  -- no other kind computes
  other : (kind : NodeKind) → gives_cell kind ≡ false → ((v : ℕ) → one_computed u memory node.ty kind v values word ≡ Err Mismatch) → ((a b : ℕ) → two_computed u memory node.ty kind a b values ≡ Err Mismatch)
      → (children : List ℕ) → computed_by u memory own n node.ty kind children values word ≡ Ok e → ⊥
  other kind cell one two children x = by children (sym (ap (λ (b : Bool). let r : Effect = cond b (cell_given memory (cell_computed u memory own n kind children values)) (value_computed u memory node.ty kind children (one_of children) values word) in r) cell) ∙ x)
    where
      by : (children : List ℕ) → value_computed u memory node.ty kind children (one_of children) values word ≡ Ok e → ⊥
      by [] f = err_ok f
      by (v ∷ []) f = err_ok (sym (one v) ∙ f)
      by (a ∷ b ∷ []) f = err_ok (sym (two a b) ∙ f)
      by (a ∷ b ∷ c ∷ rest) f = err_ok f

  case_of : ((v : ℕ) → node.kind ≡ Convert → node.children ≡ v ∷ [] → MayType world memory (cell_in values v) node.ty)
      → (kind : NodeKind) → node.kind ≡ kind → (children : List ℕ) → node.children ≡ children → RowOf u kind (type_of p.types node.ty.0) children
      → (sort_of kind ≡ ValueNode → HasValue u kind (type_of p.types node.ty.0) children) → IsLiteral u n kind → IsFound world kind
      → computed_by u memory own n node.ty kind children values word ≡ Ok e → IsComputed world memory n e
  case_of may (Named i) k children c row v lit found x = named_so i k children c x
  case_of may (Text bytes) k children c row v lit found x = text_so bytes k children c x
  case_of may (Literal i) k children c row v lit found x = literal_so i k children c lit x
  case_of may (FunctionName i) k children c row v lit found x = function_so i k children c found x
  case_of may Deref k (a ∷ []) c row v lit found x = deref_so a k c row x
  case_of may Deref k children c row v lit found x = absurd row
  case_of may (Member i) k (a ∷ []) c row v lit found x = member_so i a k c row x
  case_of may (Member i) k children c row v lit found x = absurd row
  case_of may (Number z) k [] c row v lit found x =
      cell_so world memory all n (Ok (NumberCell z)) e x
      (λ cell f. one_so (Number z) k refl (v refl) cell (subst (λ (y : Cell). HeldIn g w memory n (one_cell y)) (ok_one f) (tt, tt)))
  case_of may (Number z) k (a ∷ children) c row v lit found x = absurd row
  case_of may NullValue k [] c row v lit found x =
      cell_so world memory all n (Ok Null) e x (λ cell f. one_so NullValue k refl (v refl) cell (subst (λ (y : Cell). HeldIn g w memory n (one_cell y)) (ok_one f) (tt, tt)))
  case_of may NullValue k (a ∷ children) c row v lit found x = absurd row
  case_of may (VarArgs i) k [] c row v lit found x = varargs_so i k [] c row.0 (v refl) x
  case_of may (VarArgs i) k (a ∷ children) c row v lit found x = absurd row
  case_of may Fetch k (a ∷ []) c row v lit found x = fetch_so a k c row x
  case_of may Fetch k children c row v lit found x = absurd row
  case_of may AddressOf k (a ∷ []) c row v lit found x = address_so a k c row (v refl) x
  case_of may AddressOf k children c row v lit found x = absurd row
  case_of may Decay k (a ∷ []) c row v lit found x = decay_so a k c row (v refl) x
  case_of may Decay k children c row v lit found x = absurd row
  case_of may (PointerAdd minus) k (a ∷ b ∷ []) c row v lit found x = add_so minus a b k c row (v refl) x
  case_of may (PointerAdd minus) k children c row v lit found x = absurd row
  case_of may Convert k (a ∷ []) c row v lit found x = convert_so a k c row (v refl) (may a k c) x
  case_of may Convert k children c row v lit found x = absurd row
  case_of may Upcast k (a ∷ []) c row v lit found x = upcast_so a k c row (v refl) x
  case_of may Upcast k children c row v lit found x = absurd row
  case_of may Assign k (a ∷ b ∷ []) c row v lit found x = assign_so a b k c row x
  case_of may Assign k children c row v lit found x = absurd row
  case_of may (Update op post) k (a ∷ b ∷ []) c row v lit found x = update_so op post a b k c row (v refl) x
  case_of may (Update op post) k children c row v lit found x = absurd row
  case_of may Sequence k (a ∷ b ∷ []) c row v lit found x = sequence_so a b k c row x
  case_of may Sequence k children c row v lit found x = absurd row
  case_of may (MemberOfValue i) k (a ∷ []) c row v lit found x = taken_so i a k c row (v refl) x
  case_of may (MemberOfValue i) k children c row v lit found x = absurd row
  case_of may (Arith op) k (a ∷ []) c row v lit found x = number_so op k (v refl) (one_row op (type_at u a) (cell_in values a)) x
  case_of may (Arith op) k (a ∷ b ∷ []) c row v lit found x = number_so op k (v refl) (two_row op (type_at u a) (cell_in values a) (cell_in values b)) x
  case_of may (Arith op) k children c row v lit found x = absurd row
  case_of may kind k children c row v lit found x = absurd (other kind refl (λ v. refl) (λ a b. refl) children x)

pub values_covered : ValuesCovered
unfolding computed
values_covered world memory own n node values word e stands all there each may x = by (uses_all (type_of world.program.types node.ty.0) node.kind && lacks (trees_of world) values node.children) x
  where
    by : (b : Bool) → (let r : Effect = cond b (Err UnsetUse) (computed_by (trees_of world) memory own n node.ty node.kind node.children values word) in r) ≡ Ok e → IsComputed world memory n e
    by true f = absurd (err_ok f)
    by false f =
        case_of world stands memory all own n node there values each word e may node.kind refl node.children refl (stands.rows n node there) (stands.whole.values n node there) (stands.literals n node there)
        (stands.found n node there) f
