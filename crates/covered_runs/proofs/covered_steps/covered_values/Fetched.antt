-- Reads, writes, and pointers that are read, moved and written back.
use Rattle.std.proofs.Common.{arith, ◌≡◌, ◌∙◌, ℕ, ℤ, zero, suc, Bool, true, false, cond, List, [], ◌∷◌, Option, Some, None, Result, Ok, Err, set, slice_get, refl, sym, ap, subst}
use Rattle.std.proofs.lemmas.Bool.{false≢true}
use Rattle.c_types.specs.declared.term.PathStep.{PathStep}
use Rattle.c_types.specs.Trees.{Ctype, VoidType, BoolType, IntegerType, FloatingType, VaListType, PointerTo, ArrayOf, FunctionFrom, StructureOf, UnionOf}
use Rattle.c_types.specs.Table.{Table}
use Rattle.type_rules.specs.Kinds.{IsInteger}
use Rattle.core_tree.specs.declared.node.Op.{Op}
use Rattle.sol_model.specs.declared.system.System.{System}
use Rattle.sol_model.specs.Families.{Has}
use Rattle.sol_model.specs.Places.{sub_of}
use Rattle.obj_space.specs.Spots.{Reached, reached, part_at}
use Rattle.row_numbers.specs.Kept.{nodes_of, kept_at}
use Rattle.row_numbers.specs.Numbers.{type_number}
use Rattle.ref_cells.specs.declared.cells.Reason.{Reason}
use Rattle.ref_cells.specs.declared.cells.Reason.TheVariants.{Mismatch}
use Rattle.ref_cells.specs.declared.cells.Cell.{Cell}
use Rattle.ref_cells.specs.declared.cells.Cell.TheVariants.{Unset, Number, Null, Pointer, Function}
use Rattle.ref_cells.specs.declared.cells.Value.{Value}
use Rattle.ref_cells.specs.declared.instance.Instance.{Instance}
use Rattle.ref_cells.specs.Cells.{CellList}
use Rattle.ref_cells.specs.Numbers.{converted}
use Rattle.ref_cells.specs.Places.{is_alike}
use Rattle.ref_cells.specs.Values.{cell_in}
use Rattle.ref_cells.specs.Wholes.{whole_of}
use Rattle.ref_mem.specs.Reads.{opened, one_cell, scalar_value, value_of, opened_value, read_in, read_found, read}
use Rattle.ref_mem.specs.Writes.{with_value, written_in, write_found, write}
use Rattle.ref_state.specs.Values.{cell_of}
use Rattle.ref_values.specs.Memory.{stores_at, number_kept, scalar_updated, cell_updated, computed_in, is_integer, number_updated}
use Rattle.ref_values.specs.Numbers.{update_type, promoted, is_narrow}
use Rattle.covering_laws.specs.covered_memory.Spots.{whole_part}
use Rattle.covering_laws.specs.covered_memory.Covered.{Sets, CellIn, row_by, pointer_row, CellsIn, ValueIn, MemoryIn, Leaves}
use Rattle.covering_laws.specs.covered_memory.Demands.{Grounds, IsFew, LoadsAt, Stores}
use Rattle.covering_laws.proofs.covered_memory.Cells.{each_change}
use Rattle.covering_laws.proofs.covered_memory.Puts.{part_along}
use Rattle.covering_laws.proofs.covered_memory.Walks.{Reaches, reach_inv, Alike}
use Rattle.covering_laws.proofs.covered_memory.Anchors.{from_own}
use Rattle.covering_laws.proofs.covered_memory.Parts.{MayPoint}
use Rattle.covering_laws.proofs.covered_memory.Access.{Target, own_row, cell_written, found_at, read_inv, read_at_law, write_inv, write_law, update_law, sub_is, point_few, zero_kept, may_row}
use Rattle.covering_laws.specs.covered_library.Calls.{StoresIn}
use Rattle.covering_laws.proofs.covered_library.Stores.{parts_stored}
use Rattle.covered_runs.specs.covered_steps.covered_values.Values.{GoesBack}
use Rattle.covered_runs.proofs.covered_steps.covered_values.Types.{some_one}
use Rattle.covered_runs.proofs.covered_steps.covered_values.Operands.{ok_one, err_ok, set_back}

-- what is read of pointer type is one cell
scalar_one : (t : Ctype) (c : Cell) (v : Value) → scalar_value t c ≡ Ok v → v ≡ one_cell (cell_of v)
scalar_one t Unset v e = absurd (err_ok e)
scalar_one t (Number n) v e = subst (λ (x : Value). x ≡ one_cell (cell_of x)) (ok_one e) refl
scalar_one t Null v e = subst (λ (x : Value). x ≡ one_cell (cell_of x)) (ok_one e) refl
scalar_one t (Pointer i path past) v e = subst (λ (x : Value). x ≡ one_cell (cell_of x)) (ok_one e) refl
scalar_one t (Function key) v e = subst (λ (x : Value). x ≡ one_cell (cell_of x)) (ok_one e) refl

pointer_one : (table : Table) (marked : Bool) (found to : Ctype) (cells : CellList) (v : Value) → is_alike found (PointerTo to) ≡ true → value_of table marked found (PointerTo to) cells ≡ Ok v → v ≡ one_cell (cell_of v)
pointer_one table marked (PointerTo a) to cells v alike e = scalar_one (PointerTo to) (cell_in marked (PointerTo a) cells) v e
pointer_one table marked VoidType to cells v alike e = absurd (false≢true alike)
pointer_one table marked BoolType to cells v alike e = absurd (false≢true alike)
pointer_one table marked (IntegerType size rank signed) to cells v alike e = absurd (false≢true alike)
pointer_one table marked FloatingType to cells v alike e = absurd (false≢true alike)
pointer_one table marked VaListType to cells v alike e = absurd (false≢true alike)
pointer_one table marked (ArrayOf of n) to cells v alike e = absurd (false≢true alike)
pointer_one table marked (FunctionFrom r ps f) to cells v alike e = absurd (false≢true alike)
pointer_one table marked (StructureOf tag) to cells v alike e = absurd (false≢true alike)
pointer_one table marked (UnionOf tag) to cells v alike e = absurd (false≢true alike)

-- an integer that is updated is a number, and so was the old one
pub record IsNumbers (old c : Cell) : Type 0 where
  pub before : ℤ
  pub before_is : old ≡ Number before
  pub after : ℤ
  pub after_is : Number after ≡ c

number_out : (t : Ctype) (x : ℤ) (r : Result ℤ Reason) (c : Cell) → number_kept t r ≡ Ok c → IsNumbers (Number x) c
number_out t x (Ok n) c e = record { before = x; before_is = refl; after = converted t n; after_is = ok_one e }
number_out t x (Err reason) c e = absurd (err_ok e)

numbers_updated : (t : Ctype) (op : Op) (bits : Option ℕ) (old : Cell) (value_type : Ctype) (v c : Cell) → scalar_updated t op bits old value_type v ≡ Ok c → IsNumbers old c
numbers_updated t op bits (Number x) value_type (Number y) c e = by (is_integer t) e
  where
    by : (b : Bool) → cond b (number_updated t op bits x value_type y) (Err Mismatch) ≡ Ok c → IsNumbers (Number x) c
    by true f = number_out t x (computed_in (update_type op (promoted t (is_narrow bits)) value_type) op x y) c f
    by false f = absurd (err_ok f)
numbers_updated t op bits (Number x) value_type Unset c e = absurd (err_ok e)
numbers_updated t op bits (Number x) value_type Null c e = absurd (err_ok e)
numbers_updated t op bits (Number x) value_type (Pointer i path past) c e = absurd (err_ok e)
numbers_updated t op bits (Number x) value_type (Function key) c e = absurd (err_ok e)
numbers_updated t op bits Unset value_type v c e = absurd (err_ok e)
numbers_updated t op bits Null value_type v c e = absurd (err_ok e)
numbers_updated t op bits (Pointer i path past) value_type v c e = absurd (err_ok e)
numbers_updated t op bits (Function key) value_type v c e = absurd (err_ok e)

pub integer_out : (table : Table) (memory : List Instance) (t : Ctype) → IsInteger t → (op : Op) (bits : Option ℕ) (old : Cell) (value_type : Ctype) (v c : Cell) → cell_updated table memory t op bits old value_type v ≡ Ok c
    → IsNumbers old c
integer_out table memory BoolType h op bits old value_type v c e = numbers_updated BoolType op bits old value_type v c e
integer_out table memory (IntegerType size rank signed) h op bits old value_type v c e = numbers_updated (IntegerType size rank signed) op bits old value_type v c e
integer_out table memory t h op bits old value_type v c e = absurd h

-- an integer has no row of its own
none_kept : (table : Table) (t : Ctype) → IsInteger t → (i : ℕ) → kept_at (slice_get (nodes_of table t) i) ≡ false
none_kept table BoolType h zero = refl
none_kept table BoolType h (suc i) = refl
none_kept table (IntegerType size rank signed) h zero = refl
none_kept table (IntegerType size rank signed) h (suc i) = refl
none_kept table t h i = absurd h

integer_few : (table : Table) (t : Ctype) → IsInteger t → IsFew table t
integer_few table BoolType h = omega arith
integer_few table (IntegerType size rank signed) h = omega arith
integer_few table t h = absurd h

-- so is what is read of a list's
list_one : (table : Table) (marked : Bool) (found : Ctype) (cells : CellList) (v : Value) → is_alike found VaListType ≡ true → value_of table marked found VaListType cells ≡ Ok v → v ≡ one_cell (cell_of v)
list_one table marked VaListType cells v alike e = scalar_one VaListType (cell_in marked VaListType cells) v e
list_one table marked (PointerTo a) cells v alike e = absurd (false≢true alike)
list_one table marked VoidType cells v alike e = absurd (false≢true alike)
list_one table marked BoolType cells v alike e = absurd (false≢true alike)
list_one table marked (IntegerType size rank signed) cells v alike e = absurd (false≢true alike)
list_one table marked FloatingType cells v alike e = absurd (false≢true alike)
list_one table marked (ArrayOf of n) cells v alike e = absurd (false≢true alike)
list_one table marked (FunctionFrom r ps f) cells v alike e = absurd (false≢true alike)
list_one table marked (StructureOf tag) cells v alike e = absurd (false≢true alike)
list_one table marked (UnionOf tag) cells v alike e = absurd (false≢true alike)

module _ (g : Sets) (system : System) (grounds : Grounds g.table g.space system) where
  pub read_one : (memory : List Instance) (place : Cell) (s : Ctype) → MayPoint s → (v : Value) → read g.table memory place s ≡ Ok v → v ≡ one_cell (cell_of v)
  read_one memory place s may v e =
      let inv = read_inv g system grounds memory place s v e in
      let r = reach_inv g.table memory place s inv.found inv.found_is in
      let at : read_found g.table memory (Pointer r.i r.path r.past) s (Ok inv.found) ≡ Ok v = ap (λ (c : Cell). read_found g.table memory c s (Ok inv.found)) (sym r.place_is) ∙ inv.value_is in
      let in_inst : opened_value g.table r.inst.zero inv.found s (opened g.table (whole_of g.table r.inst) r.path r.inst.cells) ≡ Ok v =
      ap (λ (o : Option Instance). read_in g.table o r.path inv.found s) (sym r.inst_is) ∙ at in
      by s may (opened g.table (whole_of g.table r.inst) r.path r.inst.cells) inv.found r.inst.zero r.alike in_inst
    where
      by : (s : Ctype) → MayPoint s → (o : Option CellList) (found : Ctype) (marked : Bool) → is_alike found s ≡ true → opened_value g.table marked found s o ≡ Ok v → v ≡ one_cell (cell_of v)
      by (PointerTo to) may None found marked alike k = absurd (err_ok k)
      by (PointerTo to) may (Some cells) found marked alike k = pointer_one g.table marked found to cells v alike k
      by VaListType may None found marked alike k = absurd (err_ok k)
      by VaListType may (Some cells) found marked alike k = list_one g.table marked found cells v alike k
      by t may o found marked alike k = absurd may

  -- a write changes cells alone
  pub write_back : (memory : List Instance) (place : Cell) (t : Ctype) (v : Value) (after : List Instance) → write g.table memory place t v ≡ Ok after → GoesBack memory after
  write_back memory place t v after e =
      let inv = write_inv g system grounds memory place t v after e in
      let r = reach_inv g.table memory place t inv.found inv.found_is in
      let at : write_found g.table memory (Pointer r.i r.path r.past) v.cells (Ok inv.found) ≡ Ok after = ap (λ (c : Cell). write_found g.table memory c v.cells (Ok inv.found)) (sym r.place_is) ∙ inv.after_is in
      let is : Ok (set memory r.i (with_value g.table r.inst r.path inv.found v.cells)) ≡ Ok after = ap (λ (o : Option Instance). written_in g.table memory r.i o r.path inv.found v.cells) (sym r.inst_is) ∙ at in
      subst (GoesBack memory) (ok_one is) (set_back memory r.i r.inst (with_value g.table r.inst r.path inv.found v.cells) r.inst_is (λ none. none))

  -- cells put at a part of an instance are covered where they stand, once they are there
  part_stored : (memory : List Instance) (place : Cell) (t found : Ctype) (r : Reaches g.table memory place t found) (IsAt : ℕ → Type 0) (target : Target g system grounds memory IsAt r.inst r.path) (cells : CellList)
      → CellsIn g memory (own_row g system grounds target) (part_at g.table (Some (reached target.whole 0 false)) r.path) cells → (after : List Instance) → Leaves g memory after → StoresIn g after (stores_at place cells)
  part_stored memory place t found r IsAt target cells h after left =
      let b = left.extends r.i r.inst r.inst_is in
      subst (λ (c : Cell). StoresIn g after (stores_at c cells)) (sym r.place_is)
      (parts_stored g system grounds memory r.inst target.inside after left.extends r.i b.0 b.1 b.2.key ((r.path, cells) ∷ [])
      (subst (λ (o : Option Ctype). CellsIn g memory (own_row g system grounds target) (part_at g.table (whole_part o) r.path) cells) (sym target.whole_is) h, tt))

  -- a write leaves the memory covered, and what it puts there is covered
  pub written : (memory : List Instance) (through : ℕ) (place : Cell) (t : Ctype) (row : ℕ → ℕ) (v : Value) (after : List Instance) → MemoryIn g memory → CellIn g memory (Some through) place
      → IsFew g.table t → Stores g.table system g.family through row t → ValueIn g memory row t v → write g.table memory place t v ≡ Ok after → Leaves g memory after × StoresIn g after (stores_at place v.cells)
  written memory through place t row v after all h few stores value e =
      let left = write_law g system grounds memory through place t row v after all h few stores value e in
      let inv = write_inv g system grounds memory place t v after e in
      let f = found_at g system grounds memory through place t inv.found all h inv.found_is in (
        left,
        part_stored memory place t inv.found f.reaches (Has g.family through) f.target v.cells
            (cells_at memory through place t inv.found row v.cells f.reaches f.target f.ty f.alike few stores value) after left,
      )
    where
      cells_at : (memory : List Instance) (through : ℕ) (place : Cell) (t found : Ctype) (row : ℕ → ℕ) (cells : CellList) (r : Reaches g.table memory place t found)
          (target : Target g system grounds memory (Has g.family through) r.inst r.path) → target.part.ty ≡ found → Alike g.table found t → IsFew g.table t
          → Stores g.table system g.family through row t → CellsIn g memory row (Some (reached t 0 false)) cells
          → CellsIn g memory (own_row g system grounds target) (part_at g.table (Some (reached target.whole 0 false)) r.path) cells
      cells_at memory through place t found row cells r target ty alike few stores h =
          each_change (λ p c. CellIn g memory (pointer_row row (part_at g.table (Some (reached t 0 false)) p)) c)
          (λ p c. CellIn g memory (pointer_row (own_row g system grounds target) (part_at g.table (part_at g.table (Some (reached target.whole 0 false)) r.path) p)) c) cells
          (λ p c x. subst (λ (o : Option Reached). CellIn g memory (pointer_row (own_row g system grounds target) o) c) (part_along g.table (Some (reached target.whole 0 false)) r.path p)
          (cell_written g system grounds memory (Has g.family through) r.inst r.path target row
          (λ i kept l m has sub. stores i (sym (alike.kept i) ∙ (ap (λ (s : Ctype). kept_at (slice_get (nodes_of g.table s) i)) (sym ty) ∙ kept)) l m has (ap (λ (n : ℕ). sub_of system l n i) (sym (ap type_number ty ∙ alike.number)) ∙ sub))
          (subst (IsFew g.table) (sym ty) (alike.few few)) p c
          (subst (λ (s : Ctype). CellIn g memory (pointer_row row (part_at g.table (Some (reached s 0 false)) p)) c) (sym ty)
          (subst (λ (o : Option ℕ). CellIn g memory o c) (sym (alike.parts row p)) x)))) h

  -- an integer that is written
  pub integer_written : (memory : List Instance) (through : ℕ) (place : Cell) (t : Ctype) (n : ℤ) (after : List Instance) → IsInteger t → MemoryIn g memory → CellIn g memory (Some through) place
      → write g.table memory place t (one_cell (Number n)) ≡ Ok after → Leaves g memory after
  integer_written memory through place t n after integer all h e =
      write_law g system grounds memory through place t (λ i. 0) (one_cell (Number n)) after all h (integer_few g.table t integer)
      (λ i kept l m has sub x y. absurd (false≢true (sym (none_kept g.table t integer i) ∙ kept))) (tt, tt) e

  -- the location of a pointer's own node is that of the pointer
  own_sub : (memory : List Instance) (inst : Instance) (path : List PathStep) (IsAt : ℕ → Type 0) (t : Target g system grounds memory IsAt inst path)
      → sub_of system (own_row g system grounds t t.part.node) (type_number t.part.ty) 0 ≡ Some (own_row g system grounds t t.part.node)
  own_sub memory inst path IsAt t =
      let f = from_own g.table t.part [] (reached t.part.ty 0 false) refl in
      let same : t.part ≡ f.0 = some_one f.1.whole_is in
      sub_is g system grounds memory IsAt inst path t [] (reached t.part.ty 0 false) f.0 f.1 ∙ ap (λ (q : Reached). Some (own_row g system grounds t q.node)) (sym same)

  -- a pointer or list that is read, moved and written back
  pub pointer_written : (memory : List Instance) (place : Cell) (s : Ctype) → MayPoint s → (old new : Cell) (after : List Instance) (through : ℕ) → MemoryIn g memory → CellIn g memory (Some through) place
      → ((row : Option ℕ) → CellIn g memory row old → CellIn g memory row new) → read g.table memory place s ≡ Ok (one_cell old)
      → write g.table memory place s (one_cell new) ≡ Ok after → Leaves g memory after × StoresIn g after (stores_at place (([], new) ∷ []))
  pointer_written memory place s may old new after through all h moves e k =
      let left = update_law g system grounds memory place s may old new after through all h moves e k in
      let inv = read_inv g system grounds memory place s (one_cell old) e in
      let f = found_at g system grounds memory through place s inv.found all h inv.found_is in
      (left, stored f.reaches f.target f.ty f.alike inv.value_is left)
    where
      stored : {found : Ctype} → (r : Reaches g.table memory place s found) (t : Target g system grounds memory (Has g.family through) r.inst r.path) → t.part.ty ≡ found → Alike g.table found s
          → read_found g.table memory place s (Ok found) ≡ Ok (one_cell old) → Leaves g memory after → StoresIn g after (stores_at place (([], new) ∷ []))
      stored {found = found} r t ty alike value left =
          let at = own_row g system grounds t t.part.node in
          let target : Target g system grounds memory (λ l. l ≡ at) r.inst r.path = record { inside = t.inside; whole = t.whole; whole_is = t.whole_is; part = t.part; part_is = t.part_is; has = refl } in
          let sub : (m : ℕ) → sub_of system at (type_number s) 0 ≡ Some m → at ≡ m =
          λ m x. some_one (sym (own_sub memory r.inst r.path (λ l. l ≡ at) target) ∙ (ap (λ (n : ℕ). sub_of system at n 0) (ap type_number ty ∙ alike.number) ∙ x)) in
          let here : (i l m : ℕ) → kept_at (slice_get (nodes_of g.table s) i) ≡ true → l ≡ at → sub_of system l (type_number s) i ≡ Some m → at ≡ m =
          λ i l m kept is x. sub m (ap (λ (j : ℕ). sub_of system at (type_number s) j) (sym (zero_kept g system grounds s may i kept)) ∙ (ap (λ (j : ℕ). sub_of system j (type_number s) i) (sym is) ∙ x)) in
          let loads : LoadsAt g.table system g.family (λ l. l ≡ at) (λ i. at) s = λ i kept l m is x a b. subst (λ (j : ℕ). Has g.family j a) (sym (here i l m kept is x)) b in
          let own : ValueIn g memory (λ i. at) s (one_cell old) =
          read_at_law g system grounds memory (λ l. l ≡ at) place s found (λ i. at) (one_cell old) r target ty (point_few g system grounds s may) loads value in
          let row_is : pointer_row (own_row g system grounds t) (part_at g.table (Some (reached t.whole 0 false)) r.path) ≡ Some at =
          ap (pointer_row (own_row g system grounds t)) t.part_is ∙ (ap (λ (c : Ctype). row_by c at) ty ∙ (alike.parts (λ i. at) [] ∙ may_row g system grounds s may at)) in
          part_stored memory place s found r (Has g.family through) t (([], new) ∷ [])
          (subst (λ (o : Option ℕ). CellIn g memory o new) (sym row_is) (moves (Some at) (subst (λ (o : Option ℕ). CellIn g memory o old) (may_row g system grounds s may at) own.0)), tt) after left
