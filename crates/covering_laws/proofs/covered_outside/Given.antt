-- What functions at which a program is entered take from outside, and what they give.
use Rattle.std.proofs.Common.{arith, ◌≡◌, ◌∙◌, ◌⊎◌, inl, inr, ℕ, zero, suc, ◌+◌, ◌<◌, ◌≤◌, ◌==◌, Bool, true, false, cond, not, List, [], ◌∷◌, length, map, filter, Option, Some, None, slice_get, unwrap_or, get_or, Contains, refl, sym, ap, subst}
use Rattle.std.specs.Prelude.{⊤, sum}
use Rattle.std.specs.Option.{option_map, option_map_or}
use Rattle.std.proofs.lemmas.Bool.Decides.{eqb_tells}
use Rattle.std.proofs.lemmas.List.Elements.{Contains-append_left, Contains-append_right}
use Rattle.std.proofs.lemmas.List.Sums.{sum_by_more_le}
use Rattle.std.proofs.lemmas.Option.{slice_get_within, slice_get-get_or}
use Rattle.c_types.specs.declared.key.ObjectKey.{ObjectKey}
use Rattle.c_types.specs.declared.key.ObjectKey.TheVariants.{Entity as EntityKey, Outside as OutsideKey}
use Rattle.c_types.specs.declared.term.PathStep.{PathStep}
use Rattle.c_types.specs.declared.term.PathStep.TheVariants.{Index, Member}
use Rattle.c_types.specs.declared.term.TypeId.{TypeId}
use Rattle.c_types.specs.Trees.{Ctype, VoidType, BoolType, IntegerType, PointerTo, ArrayOf}
use Rattle.c_types.specs.Table.{Table, type_of, extent_in, size_below}
use Rattle.type_rules.specs.Kinds.{IsInteger, IsPointer, IsScalar}
use Rattle.core_tree.specs.declared.node.Program.{Program}
use Rattle.core_tree.specs.Typed.{CoreTrees, trees_in}
use Rattle.sol_model.specs.declared.system.System.{System}
use Rattle.sol_model.specs.declared.system.Constraint.{Constraint}
use Rattle.sol_model.specs.declared.system.Constraint.TheVariants.{Address as AddressForm, Copy as CopyForm}
use Rattle.sol_model.specs.Families.{Family, Has, IsContained}
use Rattle.sol_model.specs.Rules.{Satisfies}
use Rattle.sol_model.specs.Solutions.{IsClosed}
use Rattle.obj_made.specs.declared.object.Content.{Content}
use Rattle.obj_made.specs.declared.object.Content.TheVariants.{Blob}
use Rattle.obj_space.specs.declared.location.Location.{Location}
use Rattle.obj_space.specs.Spots.{Reached, reached, node_in, step_from, part_at}
use Rattle.obj_space.specs.View.{SpaceView, first_from, view_of}
use Rattle.obj_space.proofs.Followed.{no_part}
use Rattle.obj_space.proofs.Placed.{get_map}
use Rattle.row_numbers.specs.Kept.{nodes_of, kept_count, kept_row, row_list}
use Rattle.row_numbers.specs.Functions.{function_keys, functions_of, number_at, number_of, key_type, parameters_of}
use Rattle.row_numbers.specs.Setting.{widths, result_nodes, result_widths, start_at, result_row, none_row}
use Rattle.row_numbers.proofs.FrameLemmas.{locations_within}
use Rattle.ref_cells.specs.declared.cells.Cell.{Cell}
use Rattle.ref_cells.specs.declared.cells.Value.{Value}
use Rattle.ref_cells.specs.declared.instance.Instance.{Instance}
use Rattle.ref_cells.specs.Cells.{CellList}
use Rattle.ref_cells.specs.Wholes.{is_allocated, elements_of, typed_whole, whole_of}
use Rattle.ref_mem.specs.Reads.{one_cell}
use Rattle.ref_state.specs.Values.{first_cell}
use Rattle.normal_form.specs.declared.normal.Assignment.TheVariants.{Address, Copy}
use Rattle.normal_form.specs.Assignments.{given_type}
use Rattle.normal_form.specs.Facts.{cell_list, parameter_rows}
use Rattle.normal_form.specs.SystemOf.{SystemOf, by_start, constraint_of, present_rows, taken_in, given_out, result_rows, entry_constraints, outside_constraints, start_constraints}
use Rattle.covering_laws.specs.object_contents.Contents.{IsOutside}
use Rattle.covering_laws.specs.covered_memory.Cells.{EachCell}
use Rattle.covering_laws.specs.covered_memory.Spots.{spot_at, spot_from, spot, IsFurther, room, IsInTree}
use Rattle.covering_laws.specs.covered_memory.Covered.{Sets, CellIn, pointer_row, HasShape, cell_row, ValueIn, outside_row}
use Rattle.covering_laws.specs.covered_memory.Demands.{Grounds}
use Rattle.covering_laws.proofs.covered_memory.Fields.{copied_law}
use Rattle.covering_laws.proofs.covered_memory.Firsts.{is_first}
use Rattle.covering_laws.proofs.covered_memory.Parts.{repeated_some}
use Rattle.covering_laws.proofs.covered_memory.Stays.{cell_from_none}
use Rattle.covering_laws.specs.covered_rows.Laws.{sets_in}
use Rattle.covering_laws.proofs.covered_rows.Lists.{first_has, behind_has, map_has, flat_has}
use Rattle.covering_laws.proofs.covered_rows.Calls.{row_there, cell_there}
use Rattle.covering_laws.proofs.covered_rows.Demanded.{satisfied, copy_says, address_says}
use Rattle.covering_laws.proofs.covered_rows.Further.{slice_has}
use Rattle.covering_laws.proofs.covered_rows.Targets.{function_number}
use Rattle.covering_laws.proofs.covered_rows.Values.{sets, w'}
use Rattle.covering_laws.specs.covered_outside.Laws.{OutsideCovered, OutsidePoints, EntriesTake, EntriesGive}

some_one : {X : Type 0} → {x y : X} → ◌≡◌ {A = Option X} (Some x) (Some y) → x ≡ y
some_one h = cc

filter_has : {X : Type 0} (p : X → Bool) (xs : List X) (x : X) → Contains xs x → p x ≡ true → Contains (filter p xs) x
filter_has p [] x h t = absurd (let lt = h.1 in omega arith)
filter_has {X = X} p (y ∷ xs) x (zero, lt, is) t =
    subst (λ (list : List X). Contains list x) (sym (ap (λ (b : Bool). cond b (y ∷ filter p xs) (filter p xs)) (ap p is ∙ t)))
    (subst (λ (z : X). Contains (y ∷ filter p xs) z) is (first_has y (filter p xs)))
filter_has p (y ∷ xs) x (suc k, lt, is) t = by (p y) (filter_has p xs x (k, omega arith, is) t)
  where
    by : (b : Bool) → Contains (filter p xs) x → Contains (cond b (y ∷ filter p xs) (filter p xs)) x
    by true h = behind_has x y (filter p xs) h
    by false h = h

differs : (row none : ℕ) → row < none → not (row == none) ≡ true
differs row none lt = elim (eqb_tells row none) [ inl same ↦ absurd (let e = same.1 in omega (arith, lt, e)) | inr other ↦ ap not other.0 ]

-- memory from outside
module _ (table : Table) (inst : Instance) (key : inst.key ≡ OutsideKey) where
  abbrev count : TypeId → ℕ
  count id = elements_of inst.key inst.bytes (size_below (extent_in table (type_of table id.0)))

  typed_is : (id : TypeId) → inst.ty ≡ Some id → whole_of table inst ≡ Some (ArrayOf (type_of table id.0) (Some (count id)))
  typed_is id is =
      ap (typed_whole table inst) is ∙ ap (λ (b : Bool). Some (cond b (ArrayOf (type_of table id.0) (Some (count id))) (type_of table id.0))) (ap is_allocated key)

  -- its first element
  first_in : (ty : Option TypeId) → inst.ty ≡ ty → IsInTree table (whole_of table inst) (room inst) (Index 0 ∷ [])
  first_in None is = subst (λ (w : Option Ctype). IsInTree table w (room inst) (Index 0 ∷ [])) (sym (ap (typed_whole table inst) is)) (0, refl, omega arith)
  first_in (Some id) is = subst (λ (w : Option Ctype). IsInTree table w (room inst) (Index 0 ∷ [])) (sym (typed_is id is)) refl

module _ (g : Sets) (o : IsOutside g.space) (inst : Instance) (key : inst.key ≡ OutsideKey) where
  first_is : first_from 0 g.space inst.key ≡ Some o.first
  first_is = ap (first_from 0 g.space) key ∙ o.first_is

  spot_is : spot g.table g.space inst.key (Index 0 ∷ []) ≡ Some o.first
  spot_is =
      ap (λ (f : Option ℕ). spot_from g.table g.space f (Index 0 ∷ [])) first_is
      ∙ (ap (λ (x : Option Location). spot_at g.table o.first x (Index 0 ∷ [])) o.location_is
      ∙ (ap (λ (c : Content). option_map (λ (n : ℕ). o.first + n) (node_in g.table c (Index 0 ∷ []))) o.content_is ∙ ap (λ (n : ℕ). Some n) (let e : o.first + 0 ≡ o.first = omega arith in e)))

pub outside_covered : OutsideCovered
outside_covered g memory inst made o key none complete = record {
  first = o.first;
  location = o.location;
  first_is = first_is g o inst key;
  location_is = o.location_is;
  shape = subst (λ (c : Content). HasShape g.table c (whole_of g.table inst)) (sym o.content_is) (shaped inst.ty refl);
  untyped = λ e. inl (ap is_allocated key);
  further = λ f. absurd (subst IsFurther key f);
  cells = subst (EachCell (λ path cell. CellIn g memory (cell_row g.table inst o.location.content o.first path) cell)) (sym none) tt;
}
  where
    shaped : (ty : Option TypeId) → inst.ty ≡ ty → HasShape g.table Blob (whole_of g.table inst)
    shaped None is = inl (ap (typed_whole g.table inst) is)
    shaped (Some id) is =
        inr (
          ArrayOf (type_of g.table id.0) (Some (count g.table inst key id)),
          typed_is g.table inst key id is,
          repeated_some g.table made (count g.table inst key id) (extent_in g.table (type_of g.table id.0)) (complete id is),
        )

-- what an entry gives is nothing, a number or a pointer, and has no parts
abbrev IsFlat : Ctype → Type 0
IsFlat VoidType = ⊤
IsFlat BoolType = ⊤
IsFlat (IntegerType size rank signed) = ⊤
IsFlat (PointerTo to) = ⊤
IsFlat t = ⊥

integer_flat : (t : Ctype) → IsInteger t → IsFlat t
integer_flat BoolType h = tt
integer_flat (IntegerType size rank signed) h = tt
integer_flat t h = absurd h

pointer_flat : (t : Ctype) → IsPointer t → IsFlat t
pointer_flat (PointerTo to) h = tt
pointer_flat t h = absurd h

flat : (t : Ctype) → (t ≡ VoidType) ⊎ IsScalar t → IsFlat t
flat t (inl e) = subst IsFlat (sym e) tt
flat t (inr (inl h)) = integer_flat t h
flat t (inr (inr h)) = pointer_flat t h

flat_step : (table : Table) (t : Ctype) → IsFlat t → (step : PathStep) → step_from table (Some (reached t 0 false)) step ≡ None
flat_step table VoidType f (Index i) = refl
flat_step table VoidType f (Member k) = refl
flat_step table BoolType f (Index i) = refl
flat_step table BoolType f (Member k) = refl
flat_step table (IntegerType size rank signed) f (Index i) = refl
flat_step table (IntegerType size rank signed) f (Member k) = refl
flat_step table (PointerTo to) f (Index i) = refl
flat_step table (PointerTo to) f (Member k) = refl
flat_step table t f step = absurd f

pointer_to : (t : Ctype) → IsPointer t → (to : Ctype) × (t ≡ PointerTo to)
pointer_to (PointerTo to) h = (to, refl)
pointer_to t h = absurd h

module _ (g : Sets) (memory : List Instance) (row : ℕ → ℕ) (to : Option ℕ) where
  abbrev Points : Ctype → Type 0
  Points t = IsPointer t → (c : Cell) → CellIn g memory (Some (row 0)) c → CellIn g memory to c

  flat_cell : (t : Ctype) → IsFlat t → Points t → (path : List PathStep) (c : Cell) → CellIn g memory (pointer_row row (part_at g.table (Some (reached t 0 false)) path)) c → CellIn g memory to c
  flat_cell t f points (step ∷ rest) c h =
      cell_from_none g memory to c
      (subst (λ (o : Option ℕ). CellIn g memory o c)
      (ap (λ (r : Option Reached). pointer_row row (part_at g.table r rest)) (flat_step g.table t f step) ∙ ap (pointer_row row) (no_part g.table rest)) h)
  flat_cell VoidType f points [] c h = cell_from_none g memory to c h
  flat_cell BoolType f points [] c h = cell_from_none g memory to c h
  flat_cell (IntegerType size rank signed) f points [] c h = cell_from_none g memory to c h
  flat_cell (PointerTo t) f points [] c h = points tt c h
  flat_cell t f points [] c h = absurd f

  flat_first : (t : Ctype) → IsFlat t → Points t → (cells : CellList) → EachCell (λ path c. CellIn g memory (pointer_row row (part_at g.table (Some (reached t 0 false)) path)) c) cells → CellIn g memory to (first_cell cells)
  flat_first t f points [] h = tt
  flat_first t f points (e ∷ rest) h = flat_cell t f points e.0 e.1 h.0

-- the rows of results stand before the one of nodes without rows
result_before : (u : CoreTrees) (s : SpaceView) (number : ℕ) (key : ObjectKey) → slice_get (functions_of u s) number ≡ Some key → result_row u s number + kept_count (result_nodes u key) ≤ none_row u s
unfolding result_row none_row
result_before u s number key at =
    let wide : slice_get (result_widths u s) number ≡ Some (kept_count (result_nodes u key)) = get_map (λ (k : ObjectKey). kept_count (result_nodes u k)) (functions_of u s) number key at in
    let lt = slice_get_within (result_widths u s) number (kept_count (result_nodes u key)) wide in
    let sums = sum_by_more_le (λ (x : ℕ). x) (result_widths u s) number 0 lt in
    let is : get_or (result_widths u s) number 0 ≡ kept_count (result_nodes u key) = some_one (sym (slice_get-get_or (result_widths u s) number 0 lt) ∙ wide) in
    omega arith

module _ (p : Program) (space : List Location) (system : System) (is : SystemOf p (view_of space) system) (F : Family) (closed : IsClosed system F) (grounds : Grounds p.types space system)
    (o : IsOutside space) (e : ℕ) (entry : Contains p.entries.items e) where
  abbrev g : Sets
  g = sets p space system is F closed grounds

  abbrev u : CoreTrees
  u = trees_in p

  abbrev s : SpaceView
  s = view_of space

  starts : (entries : List ℕ) → Contains entries e → (c : Constraint) → Contains (outside_constraints u s entries (s.first OutsideKey)) c → Contains (start_constraints u s entries) c
  starts [] h c d = absurd (let lt = h.1 in omega arith)
  starts (x ∷ rest) h c d = d

  started : (c : Constraint) → Contains (outside_constraints u s p.entries.items (Some o.first)) c → Satisfies system F c
  started c h =
      satisfied p s system is F closed c
      (by_start (starts p.entries.items entry c (subst (λ (f : Option ℕ). Contains (outside_constraints u s p.entries.items f) c) (sym o.first_is) h)))

  -- what lies outside may point to itself
  own : Has F o.first o.first
  own =
      address_says p s system is F closed o.first o.first
      (started (constraint_of (Address o.first o.first)) (first_has (AddressForm o.first o.first) _))

  demanded : (c : Constraint) → Contains (entry_constraints u s o.first e) c → Satisfies system F c
  demanded c h = started c (behind_has c (AddressForm o.first o.first) _ (flat_has (entry_constraints u s o.first) p.entries.items e c entry h))

  -- a row of a parameter has what lies outside
  taken : (k : ℕ) (key : ObjectKey) (row : ℕ) → slice_get (parameters_of u s e) k ≡ Some key → row < none_row u s → Contains (parameter_rows u s key) row → IsContained F o.first row
  taken k key row at lt has =
      copy_says p s system is F closed row o.first
      (demanded (constraint_of (Copy row o.first))
      (Contains-append_left _ (given_out u s o.first (result_rows u s e)) (CopyForm o.first row)
      (flat_has (λ key. taken_in u s o.first (parameter_rows u s key)) (parameters_of u s e) key (CopyForm o.first row) (slice_has (parameters_of u s e) k key at)
      (map_has (λ (r : ℕ). CopyForm o.first r) (present_rows u s (parameter_rows u s key)) row
      (filter_has (λ (r : ℕ). not (r == none_row u s)) (parameter_rows u s key) row has (differs row (none_row u s) lt))))))

  -- what lies outside has what a row of the result has
  given : (row : ℕ) → row < none_row u s → Contains (result_rows u s e) row → IsContained F row o.first
  given row lt has =
      copy_says p s system is F closed o.first row
      (demanded (constraint_of (Copy o.first row))
      (Contains-append_right _ (given_out u s o.first (result_rows u s e)) (CopyForm row o.first)
      (map_has (λ (r : ℕ). CopyForm r o.first) (present_rows u s (result_rows u s e)) row
      (filter_has (λ (r : ℕ). not (r == none_row u s)) (result_rows u s e) row has (differs row (none_row u s) lt)))))

  pub take_in : (k l : ℕ) (key : ObjectKey) (to : Ctype) → slice_get (parameters_of u s e) k ≡ Some key → first_from 0 space key ≡ Some l → key_type u key ≡ PointerTo to
      → (memory : List Instance) (c : Cell) → CellIn g memory (outside_row g) c → ValueIn g memory (λ i. l + i) (PointerTo to) (one_cell c)
  take_in k l key to at first ty memory c h =
      (copied_law g system grounds memory o.first (l + 0) c (taken k key (l + 0) at before listed) (subst (λ (f : Option ℕ). CellIn g memory f c) o.first_is h), tt)
    where
      before : l + 0 < none_row u s
      before =
          let here = (is_first space key l first).here in
          let lt = slice_get_within space l here.0 here.1 in
          omega (arith, lt, locations_within u s)

      listed : Contains (parameter_rows u s key) (l + 0)
      listed =
          slice_has (parameter_rows u s key) 0 (l + 0)
          (ap (λ (f : Option ℕ). slice_get (cell_list (none_row u s) (unwrap_or f 0) (nodes_of p.types (key_type u key))) 0) first
          ∙ (ap (λ (t : Ctype). slice_get (cell_list (none_row u s) l (nodes_of p.types t)) 0) ty ∙ cell_there (none_row u s) l (nodes_of p.types (PointerTo to)) 0 refl))

  pub give_in : (l : ℕ) (t : Ctype) → Contains (function_keys u) (EntityKey e) → first_from 0 space (EntityKey e) ≡ Some l → given_type (w' p space system is F closed grounds) e ≡ t → IsFlat t
      → (memory : List Instance) (v : Value) → ValueIn g memory (kept_row (result_row u s (number_of u s e)) (nodes_of p.types t)) t v → CellIn g memory (outside_row g) (first_cell v.cells)
  give_in l t function first ty is_flat memory v h = flat_first g memory (kept_row (result_row u s (number_of u s e)) (nodes_of p.types t)) (outside_row g) t is_flat points v.cells h
    where
      number : slice_get (functions_of u s) (number_of u s e) ≡ Some (EntityKey e)
      number =
          ap (λ (f : Option ℕ). slice_get (functions_of u s) (option_map_or (number_at u s) f 0)) first ∙ function_number u space l (EntityKey e) function first

      row : ℕ
      row = kept_row (result_row u s (number_of u s e)) (nodes_of p.types t) 0

      nodes_are : (to : Ctype) → t ≡ PointerTo to → result_nodes u (EntityKey e) ≡ nodes_of p.types (PointerTo to)
      nodes_are to is_pointer = ap (nodes_of p.types) (ty ∙ is_pointer)

      before : (to : Ctype) → t ≡ PointerTo to → row < none_row u s
      before to is_pointer =
          let fits = result_before u s (number_of u s e) (EntityKey e) number in
          let one : kept_count (result_nodes u (EntityKey e)) ≡ 1 = ap kept_count (nodes_are to is_pointer) in
          omega (arith, fits, one)

      listed : (to : Ctype) → t ≡ PointerTo to → Contains (result_rows u s e) row
      listed to is_pointer =
          slice_has (result_rows u s e) 0 row
          (ap (λ (ts : List Ctype). slice_get (row_list (none_row u s) (result_row u s (number_of u s e)) ts) 0) (nodes_are to is_pointer)
          ∙ row_there (none_row u s) (result_row u s (number_of u s e)) (nodes_of p.types (PointerTo to)) 0 refl)

      points : IsPointer t → (c : Cell) → CellIn g memory (Some row) c → CellIn g memory (outside_row g) c
      points pointer c x =
          let to = pointer_to t pointer in
          subst (λ (f : Option ℕ). CellIn g memory f c) (sym o.first_is) (copied_law g system grounds memory row o.first c (given row (before to.0 to.1) (listed to.0 to.1)) x)

pub outside_points : OutsidePoints
outside_points s e i memory inst o entry at key = record {
  inst = inst;
  inst_is = at;
  in_tree = first_in s.program.types inst key inst.ty refl;
  lands = record {
    at = o.first;
    location = o.first;
    row_is = o.first_is;
    found_is = spot_is (sets_in s) o inst key;
    has = own s.program s.space s.system s.is_system s.family s.closed s.grounds o e entry;
  };
}

pub entries_take : EntriesTake
entries_take s e k l key to memory cell o entry at first ty h =
    take_in s.program s.space s.system s.is_system s.family s.closed s.grounds o e entry k l key to at first ty memory cell h

pub entries_give : EntriesGive
entries_give s e l t memory v o entry function first ty scalar h =
    give_in s.program s.space s.system s.is_system s.family s.closed s.grounds o e entry l t function first ty (flat t scalar) memory v h
