-- The rows that move a pointer along an array: the searches, strtol, bsearch, and the turns of qsort.
use Rattle.std.proofs.Common.{◌≡◌, ◌∙◌, ℕ, ◌==◌, ◌||◌, ◌%◌, ◌/◌, min, max, pos, Bool, true, false, cond, List, [], ◌∷◌, Option, Some, None, Result, Ok, Err, IsSome, set, slice_get, Contains, refl, sym, ap, subst}
use Rattle.std.proofs.lemmas.Bool.{false≢true}
use Rattle.pta_base.specs.declared.effect.Effect.TheVariants.{GivesArgument, StoresInto}
use Rattle.c_types.specs.declared.key.ObjectKey.{ObjectKey}
use Rattle.c_types.specs.declared.term.PathStep.{PathStep}
use Rattle.c_types.specs.declared.term.TypeId.{TypeId}
use Rattle.c_types.specs.Trees.{Ctype, PointerTo, VoidType}
use Rattle.c_types.specs.Table.{Table, type_of}
use Rattle.core_tree.specs.declared.node.Node.{Node}
use Rattle.core_tree.specs.declared.node.Program.{Program}
use Rattle.core_tree.specs.Typed.{trees_in, type_at}
use Rattle.sol_model.specs.declared.system.System.{System}
use Rattle.sol_model.specs.declared.system.CallSite.{CallSite}
use Rattle.sol_model.specs.declared.system.Function.{Function}
use Rattle.sol_model.specs.Families.{Family, Has}
use Rattle.sol_model.specs.Rules.{IsTarget}
use Rattle.sol_model.specs.Solutions.{IsClosed}
use Rattle.obj_space.specs.declared.location.Location.{Location}
use Rattle.obj_space.specs.View.{view_of}
use Rattle.obj_space.specs.Spots.{Reached, reached, part_at}
use Rattle.row_numbers.specs.Setting.{Setting}
use Rattle.ref_cells.specs.declared.cells.Reason.{Reason}
use Rattle.ref_cells.specs.declared.cells.Reason.TheVariants.{Mismatch, OutOfRange}
use Rattle.ref_cells.specs.declared.cells.Cell.{Cell}
use Rattle.ref_cells.specs.declared.cells.Cell.TheVariants.{Unset, Number, Null, Pointer, Function as FunctionCell}
use Rattle.ref_cells.specs.declared.cells.Value.{Value}
use Rattle.ref_cells.specs.declared.instance.Instance.{Instance}
use Rattle.ref_cells.specs.Cells.{CellList}
use Rattle.ref_cells.specs.Wholes.{whole_of, typed_whole, shape_of}
use Rattle.ref_mem.specs.Reads.{one_cell, content}
use Rattle.ref_cells.specs.Places.{reach}
use Rattle.ref_mem.specs.Writes.{changed, write, write_found, with_parts, type_or, typed_as}
use Rattle.ref_elements.specs.declared.outcome.Next.TheVariants.{Done, Again, Calls}
use Rattle.ref_elements.specs.declared.runs.Found.{Found}
use Rattle.ref_elements.specs.Arguments.{count_of}
use Rattle.ref_elements.specs.Objects.{is_odd}
use Rattle.ref_elements.specs.Outcomes.{Effected, gives, no_value, null_value, number_value}
use Rattle.ref_elements.specs.Parts.{Parts, pointers_of, with_all}
use Rattle.ref_elements.specs.Runs.{◌>>=◌, whole_id, found_at, element_path, element_at, content_in, content_at, size_in, within}
use Rattle.ref_copies.specs.Turns.{moved_in, moved, search_row, is_null, store_end, strtol_row, checked_array, array_at, compares, first_of, second_of, told, taken, swapped, swaps, sort_turn, sort_row, find_turn, find_row}
use Rattle.call_sites.specs.Calls.{IsCallSite}
use Rattle.normal_form.specs.Assignments.{row_in}
use Rattle.normal_form.specs.SystemOf.{SystemOf}
use Rattle.covering_laws.specs.covered_memory.Spots.{spot, whole_part, room, IsInTree}
use Rattle.covering_laws.specs.covered_memory.Covered.{Sets, Lands, PointsIn, CellIn, CellsIn, object_row, HasShape, InstanceIn, MemoryIn, Extends, Leaves}
use Rattle.covering_laws.specs.covered_memory.Demands.{Grounds}
use Rattle.covering_laws.proofs.covered_memory.Anchors.{spot_is}
use Rattle.covering_laws.proofs.covered_memory.Changes.{PartsIn, parts_law}
use Rattle.covering_laws.proofs.covered_memory.Fields.{copied_law}
use Rattle.covering_laws.proofs.covered_memory.Stays.{cell_stays}
use Rattle.covering_laws.specs.covered_rows.Nodes.{IsArgument, HeldIn}
use Rattle.covering_laws.proofs.covered_rows.Places.{held_cell, cell_held}
use Rattle.covering_laws.proofs.covered_rows.Values.{sets, w'}
use Rattle.covering_laws.proofs.covered_library.Effects.{edge_says, argument_is, gives_argument_in, stores_into_in}
use Rattle.covering_laws.specs.covered_library.Calls.{StoresIn, instance_row, BackIn}
use Rattle.covering_laws.proofs.covered_library.Stores.{parts_stored}
use Rattle.covering_laws.proofs.covered_library.Allocation.{IsCovered}
use Rattle.covering_laws.proofs.covered_library.Answers.{answered, kept_in, numbered_in, null_done}
use Rattle.covering_laws.proofs.covered_library.Copies.{source_cells}
use Rattle.covering_laws.proofs.covered_library.Copying.{went}
use Rattle.covering_laws.proofs.covered_library.Runs.{IsRun, found_inv, run_parts, run_type, whole_shape}

some_one : {X : Type 0} → {x y : X} → ◌≡◌ {A = Option X} (Some x) (Some y) → x ≡ y
some_one h = cc

none_some : {X : Type 0} → {x : X} → ◌≡◌ {A = Option X} None (Some x) → ⊥
none_some h = cc

ok_one : {X : Type 0} → {x y : X} → ◌≡◌ {A = Result X Reason} (Ok x) (Ok y) → x ≡ y
ok_one h = cc

err_ok : {X : Type 0} → {r : Reason} → {x : X} → ◌≡◌ {A = Result X Reason} (Err r) (Ok x) → ⊥
err_ok h = cc

there : {X : Type 0} (o : Option X) → IsSome o → (x : X) × (o ≡ Some x)
there None h = absurd (false≢true h)
there (Some x) h = (x, refl)

module _ (g : Sets) (system : System) (grounds : Grounds g.table g.space system) (memory : List Instance) (all : MemoryIn g memory) (row : Option ℕ) (place : Cell) (found : Found) (place_in : CellIn g memory row place)
    (s : IsRun g.table memory place found) where
  shape : Ctype
  shape = shape_of g.table (whole_id g.table s.inst s.id)

  inside : InstanceIn g memory s.inst
  inside = all s.i s.inst s.inst_is

  whole : whole_of g.table s.inst ≡ Some (shape_of g.table (whole_id g.table s.inst s.id))
  whole = ap (typed_whole g.table s.inst) s.ty_is ∙ whole_shape g.table s.inst s.id

  points : PointsIn g memory row s.i s.path
  points = subst (CellIn g memory row) s.place_is place_in

  same : points.inst ≡ s.inst
  same = some_one (sym points.inst_is ∙ s.inst_is)

  part : (r : Reached) × (part_at g.table (Some (reached (shape_of g.table (whole_id g.table s.inst s.id)) 0 false)) s.path ≡ Some r)
  part =
      there (part_at g.table (Some (reached (shape_of g.table (whole_id g.table s.inst s.id)) 0 false)) s.path)
      (subst (λ (w : Option Ctype). IsInTree g.table w (room s.inst) s.path) whole (subst (λ (x : Instance). IsInTree g.table (whole_of g.table x) (room x) s.path) same points.in_tree))

  element_part : (k : ℕ) → part_at g.table (Some (reached (shape_of g.table (whole_id g.table s.inst s.id)) 0 false)) (element_path found.run k) ≡ Some part.0
  element_part k = run_parts g.table (Some (whole_id g.table s.inst s.id)) s.path s.past found.run s.run_is k (Some (reached (shape_of g.table (whole_id g.table s.inst s.id)) 0 false)) ∙ part.1

  part_spot : (path : List PathStep) → part_at g.table (Some (reached (shape_of g.table (whole_id g.table s.inst s.id)) 0 false)) path ≡ Some part.0
      → spot g.table g.space s.inst.key path ≡ Some (object_row inside.location.content inside.first part.0.node)
  part_spot path e =
      spot_is g.table g.space system grounds s.inst.key inside.first inside.location inside.first_is inside.location_is (Some (shape_of g.table (whole_id g.table s.inst s.id)))
      (subst (HasShape g.table inside.location.content) whole inside.shape) path part.0 e

  -- a pointer to another element of what a covered place is in
  pub element_in : (k : ℕ) → CellIn g memory row (element_at found k)
  element_in k = record {
    inst = s.inst;
    inst_is = ap (slice_get memory) s.number_is ∙ s.inst_is;
    in_tree = subst (λ (w : Option Ctype). IsInTree g.table w (room s.inst) (element_path found.run k)) (sym whole) (subst (λ (o : Option Reached). IsSome o) (sym (element_part k)) refl);
    lands = subst (λ (o : Option ℕ). Lands g.family row o) (ap (λ (x : Instance). spot g.table g.space x.key s.path) same ∙ (part_spot s.path part.1 ∙ sym (part_spot (element_path found.run k) (element_part k)))) points.lands;
  }

  element_ty : part.0.ty ≡ type_of g.table found.run.of.0
  element_ty = run_type g.table grounds.named (whole_id g.table s.inst s.id) s.path s.past found.run s.run_is 0 false part.0 part.1

  whole_element : (j : ℕ) → part_at g.table (whole_part (whole_of g.table s.inst)) (element_path found.run j) ≡ Some part.0
  whole_element j = ap (λ (w : Option Ctype). part_at g.table (whole_part w) (element_path found.run j)) whole ∙ element_part j

  -- the cells of an element are covered in any other one's place
  element_cells : (h : InstanceIn g memory s.inst) (k j : ℕ) (cells : CellList) → content_at g.table memory found k ≡ Some cells
      → CellsIn g memory (object_row h.location.content h.first) (part_at g.table (whole_part (whole_of g.table s.inst)) (element_path found.run j)) cells
  element_cells h k j cells e =
      let at : content g.table s.inst (element_path found.run k) (type_of g.table found.run.of.0) ≡ Some cells =
      sym (ap (λ (m : ℕ). content_in g.table (slice_get memory m) (element_path found.run k) (type_of g.table found.run.of.0)) s.number_is
      ∙ ap (λ (o : Option Instance). content_in g.table o (element_path found.run k) (type_of g.table found.run.of.0)) s.inst_is) ∙ e in
      subst (λ (o : Option Reached). CellsIn g memory (object_row h.location.content h.first) o cells) (sym (whole_element j))
      (source_cells g system grounds memory all s.inst h (element_path found.run k) part.0 (type_of g.table found.run.of.0) (whole_element k) element_ty cells at)

  told_inv : (o : Option CellList) (cells : CellList) → told o ≡ Ok cells → o ≡ Some cells
  told_inv None cells e = absurd (err_ok e)
  told_inv (Some x) cells e = ap (λ (y : CellList). Some y) (ok_one e)

  abbrev PutsIn : Parts → Type 0
  PutsIn parts = (h : InstanceIn g memory s.inst) → PartsIn g system grounds memory (object_row h.location.content h.first) (whole_part (whole_of g.table s.inst)) parts

  swapped_in : (i j : ℕ) (parts : Parts) → swapped g.table memory found i j ≡ Ok parts → (h : InstanceIn g memory s.inst) → PartsIn g system grounds memory (object_row h.location.content h.first) (whole_part (whole_of g.table s.inst)) parts
  swapped_in i j parts e h = by (i == j) e
    where
      by : (b : Bool) → cond b (taken g.table memory found i >>= (λ a. let r : Result Parts Reason = Ok ((element_path found.run i, a) ∷ []) in r))
          (taken g.table memory found (min i j) >>= (λ a. taken g.table memory found (max i j) >>= (λ b. let r : Result Parts Reason = Ok ((element_path found.run (min i j), b) ∷ (element_path found.run (max i j), a) ∷ []) in r))) ≡ Ok parts
          → PartsIn g system grounds memory (object_row h.location.content h.first) (whole_part (whole_of g.table s.inst)) parts
      by true f =
          let q = went (taken g.table memory found i) _ parts f in
          subst (PartsIn g system grounds memory (object_row h.location.content h.first) (whole_part (whole_of g.table s.inst))) (ok_one q.2)
          (element_cells h i i q.0 (told_inv (content_at g.table memory found i) q.0 q.1), tt)
      by false f =
          let q = went (taken g.table memory found (min i j)) _ parts f in
          let r = went (taken g.table memory found (max i j)) _ parts q.2 in
          subst (PartsIn g system grounds memory (object_row h.location.content h.first) (whole_part (whole_of g.table s.inst))) (ok_one r.2)
          (element_cells h (max i j) (min i j) r.0 (told_inv (content_at g.table memory found (max i j)) r.0 r.1), (element_cells h (min i j) (max i j) q.0 (told_inv (content_at g.table memory found (min i j)) q.0 q.1), tt))

  -- a swap leaves the memory covered
  pub swap_in : (i j : ℕ) (parts : Parts) → swapped g.table memory found i j ≡ Ok parts → Leaves g memory (with_all g.table memory found.number found.run.of parts)
  swap_in i j parts e =
      let at : slice_get memory found.number ≡ Some s.inst = ap (slice_get memory) s.number_is ∙ s.inst_is in
      let typed : typed_as found.run.of s.inst ≡ s.inst =
      ap (λ (t : Option TypeId). let r : Instance = record s.inst { ty = type_or found.run.of t } in r) s.ty_is ∙ sym (ap (λ (t : Option TypeId). let r : Instance = record s.inst { ty = t } in r) s.ty_is) in
      let eq : with_all g.table memory found.number found.run.of parts ≡ changed memory found.number (slice_get memory found.number) (with_parts g.table parts) =
      ap (λ (o : Option Instance). changed memory found.number o (λ inst. with_parts g.table parts (typed_as found.run.of inst))) at
      ∙ (ap (λ (x : Instance). set memory found.number (with_parts g.table parts x)) typed ∙ sym (ap (λ (o : Option Instance). changed memory found.number o (with_parts g.table parts)) at)) in
      subst (Leaves g memory) (sym eq)
      (parts_law g system grounds memory found.number parts all
      (λ a a_is h. subst (λ (x : Instance). (k : InstanceIn g memory x) → PartsIn g system grounds memory (object_row k.location.content k.first) (whole_part (whole_of g.table x)) parts)
      (some_one (sym at ∙ a_is)) (λ k. swapped_in i j parts e k) h))

  pub swap_stored : (i j : ℕ) (parts : Parts) → swapped g.table memory found i j ≡ Ok parts → StoresIn g (with_all g.table memory found.number found.run.of parts) (pointers_of found.number parts)
  swap_stored i j parts e =
      let l = swap_in i j parts e in
      let b = l.extends found.number s.inst (ap (slice_get memory) s.number_is ∙ s.inst_is) in
      parts_stored g system grounds memory s.inst inside (with_all g.table memory found.number found.run.of parts) l.extends found.number b.0 b.1 b.2.key parts (swapped_in i j parts e inside)

-- what is written through is a pointer
abbrev IsPointer : Cell → Type 0
IsPointer (Pointer i path past) = Unit {0}
IsPointer cell = ⊥

found_pointer : (table : Table) (memory after : List Instance) (place : Cell) (cells : CellList) (r : Result Ctype Reason) → write_found table memory place cells r ≡ Ok after → IsPointer place
found_pointer table memory after place cells (Err reason) h = absurd (err_ok h)
found_pointer table memory after (Pointer i path past) cells (Ok found) h = tt
found_pointer table memory after Null cells (Ok found) h = absurd (err_ok h)
found_pointer table memory after Unset cells (Ok found) h = absurd (err_ok h)
found_pointer table memory after (Number k) cells (Ok found) h = absurd (err_ok h)
found_pointer table memory after (FunctionCell key) cells (Ok found) h = absurd (err_ok h)

write_pointer : (table : Table) (memory after : List Instance) (place : Cell) (t : Ctype) (v : Value) → write table memory place t v ≡ Ok after → IsPointer place
unfolding write
write_pointer table memory after place t v h = found_pointer table memory after place v.cells (reach table memory place t) h

module _ (p : Program) (space : List Location) (system : System) (is : SystemOf p (view_of space) system) (F : Family) (closed : IsClosed system F) (grounds : Grounds p.types space system)
    (number n : ℕ) (node : Node) (site : CallSite) (at : slice_get system.calls number ≡ Some site) (of_call : IsCallSite (w' p space system is F closed grounds) n node site)
    (target : ℕ) (function : Function) (is_target : IsTarget system F site target function) (library : ℕ) (is_library : function.library ≡ Some library)
    (memory : List Instance) (all : MemoryIn (sets p space system is F closed grounds) memory) where
  abbrev g : Sets
  g = sets p space system is F closed grounds

  abbrev w : Setting
  w = w' p space system is F closed grounds

  -- a pointer that goes forward is covered where it came from
  pub moved_held : (a : ℕ) (ta : Ctype) → type_at (trees_in p) a ≡ PointerTo ta → (word : ℕ) (a1 : Cell) → HeldIn g w memory a (one_cell a1) → (c : Cell) → moved p.types memory word a1 ≡ Ok c → HeldIn g w memory a (one_cell c)
  moved_held a ta tya word a1 h1 c h =
      let q = went (found_at p.types memory a1) (moved_in word) c h in
      by q.0 q.1 (q.0.run.room == 0) q.2
    where
      by : (found : Found) → found_at p.types memory a1 ≡ Ok found → (b : Bool) → (let r : Result Cell Reason = cond b (Err OutOfRange) (Ok (element_at found ((word / 2) % found.run.room))) in r) ≡ Ok c → HeldIn g w memory a (one_cell c)
      by found found_is true f = absurd (err_ok f)
      by found found_is false f =
          subst (λ (x : Cell). HeldIn g w memory a (one_cell x)) (ok_one f)
          (cell_held p space system is F closed grounds a ta memory (element_at found ((word / 2) % found.run.room)) tya
          (element_in g system grounds memory all (Some (row_in w a)) a1 found (held_cell p space system is F closed grounds a ta memory a1 tya h1) (found_inv p.types memory a1 found found_is) ((word / 2) % found.run.room)))

  -- strchr, strrchr, strstr, memchr
  pub search_row_in : (a : ℕ) (ta to : Ctype) → Contains function.effects (GivesArgument 1) → IsArgument (trees_in p) node 0 a → type_at (trees_in p) a ≡ PointerTo ta → type_at (trees_in p) n ≡ PointerTo to
      → (word : ℕ) (a1 : Cell) → HeldIn g w memory a (one_cell a1) → (e : Effected) → search_row p.types memory word a1 ≡ Ok e → IsCovered p space system is F closed grounds number n node site at of_call target function is_target library is_library memory e
  search_row_in a ta to gives_it a_is tya tn word a1 h1 e r = by (is_odd word) r
    where
      by : (b : Bool) → cond b (gives memory null_value) (moved p.types memory word a1 >>= (λ cell. gives memory (one_cell cell))) ≡ Ok e → IsCovered p space system is F closed grounds number n node site at of_call target function is_target library is_library memory e
      by true k = null_done p space system is F closed grounds number n node site at of_call target function is_target library is_library to tn memory all e k
      by false k =
          let q = went (moved p.types memory word a1) (λ cell. gives memory (one_cell cell)) e k in
          kept_in p space system is F closed grounds number n node site at of_call target function is_target library is_library memory all (one_cell q.0) Done e
          (gives_argument_in p space system is F closed grounds number n node site at of_call target function is_target library is_library 0 a to ta gives_it a_is tya tn memory q.0 (moved_held a ta tya word a1 h1 q.0 q.1)) q.2

  -- the pointer that strtol stores
  end_stored : (a b : ℕ) (ta tb : Ctype) → Contains function.effects (StoresInto 2 1) → IsArgument (trees_in p) node 0 a → IsArgument (trees_in p) node 1 b
      → type_at (trees_in p) a ≡ PointerTo ta → type_at (trees_in p) b ≡ PointerTo tb → (place c : Cell) → IsPointer place → HeldIn g w memory a (one_cell c) → HeldIn g w memory b (one_cell place)
      → (after : List Instance) → Extends g memory after → StoresIn g after ((place, c) ∷ [])
  end_stored a b ta tb stores_it a_is b_is tya tyb (Pointer i path past) c pointer h1 h2 after extends =
      let pt : PointsIn g memory (Some (row_in w b)) i path = held_cell p space system is F closed grounds b tb memory (Pointer i path past) tyb h2 in
      let x = extends i pt.inst pt.inst_is in
      let has : Has F (row_in w b) pt.lands.location = subst (λ (k : ℕ). Has F k pt.lands.location) (sym (some_one pt.lands.row_is)) pt.lands.has in
      let edge = edge_says p space system is F closed grounds number n node site at of_call target function is_target library is_library (StoresInto 2 1) (row_in w a) pt.lands.location stores_it (row_in w b, argument_is p space system is F closed grounds number n node site at of_call target function is_target library is_library 1 b tb b_is tyb, has, argument_is p space system is F closed grounds number n node site at of_call target function is_target library is_library 0 a ta a_is tya) in
      let cell : CellIn g memory (Some pt.lands.location) c = copied_law g system grounds memory (row_in w a) pt.lands.location c edge (held_cell p space system is F closed grounds a ta memory c tya h1) in
      let spotted : CellIn g after (spot g.table g.space x.0.key path) c =
      subst (λ (k : ObjectKey). CellIn g after (spot g.table g.space k path) c) (sym x.2.key)
      (cell_stays g memory after extends (spot g.table g.space pt.inst.key path) c (subst (λ (o : Option ℕ). CellIn g memory o c) (sym pt.lands.found_is) cell)) in
      (subst (λ (o : Option Instance). CellIn g after (instance_row g path o) c) (sym x.1) spotted, tt)
  end_stored a b ta tb stores_it a_is b_is tya tyb Null c pointer h1 h2 after extends = absurd pointer
  end_stored a b ta tb stores_it a_is b_is tya tyb Unset c pointer h1 h2 after extends = absurd pointer
  end_stored a b ta tb stores_it a_is b_is tya tyb (Number k) c pointer h1 h2 after extends = absurd pointer
  end_stored a b ta tb stores_it a_is b_is tya tyb (FunctionCell key) c pointer h1 h2 after extends = absurd pointer

  -- strtol
  pub strtol_row_in : (a b : ℕ) (ta tb : Ctype) → Contains function.effects (StoresInto 2 1) → IsArgument (trees_in p) node 0 a → IsArgument (trees_in p) node 1 b
      → type_at (trees_in p) a ≡ PointerTo ta → type_at (trees_in p) b ≡ PointerTo tb → (result : Ctype) (word : ℕ) (a1 a2 : Cell) → HeldIn g w memory a (one_cell a1) → HeldIn g w memory b (one_cell a2)
      → (e : Effected) → strtol_row p.types memory result word a1 a2 ≡ Ok e → IsCovered p space system is F closed grounds number n node site at of_call target function is_target library is_library memory e
  strtol_row_in a b ta tb stores_it a_is b_is tya tyb result word a1 a2 h1 h2 e r = by (is_null a2) r
    where
      by : (t : Bool) → cond t (gives memory (number_value result (pos word))) (moved p.types memory word a1 >>= store_end p.types memory result word a2) ≡ Ok e → IsCovered p space system is F closed grounds number n node site at of_call target function is_target library is_library memory e
      by true k = numbered_in p space system is F closed grounds number n node site at of_call target function is_target library is_library memory all result (pos word) Done e k
      by false k =
          let q = went (moved p.types memory word a1) (store_end p.types memory result word a2) e k in
          let s = went (write p.types memory a2 (PointerTo VoidType) (one_cell q.0)) _ e q.2 in
          let l = stores_into_in p space system is F closed grounds number n node site at of_call target function is_target library is_library 1 0 b a tb ta VoidType stores_it b_is a_is tyb tya memory s.0 a2 q.0 all h2 (moved_held a ta tya word a1 h1 q.0 q.1) s.1 in
          answered p space system is F closed grounds number n node site at of_call target function is_target library is_library memory s.0 (record { value = number_value result (pos word); stores = (a2, q.0) ∷ []; next = Done }) e l (tt, tt)
          (end_stored a b ta tb stores_it a_is b_is tya tyb a2 q.0 (write_pointer p.types memory s.0 a2 (PointerTo VoidType) (one_cell q.0) s.1) (moved_held a ta tya word a1 h1 q.0 q.1) h2 s.0 l.extends) s.2

  -- a comparison is called
  compares_in : (x y : ℕ) (compare a b : Cell) → CellIn g memory (Some x) a → CellIn g memory (Some y) b → (e : Effected) → compares memory compare a b ≡ Ok e → IsCovered p space system is F closed grounds number n node site at of_call target function is_target library is_library memory e × BackIn g memory compare x y e.outcome.next
  compares_in x y Null a b ha hb e h = absurd (err_ok h)
  compares_in x y Unset a b ha hb e h = absurd (err_ok h)
  compares_in x y (Number k) a b ha hb e h = absurd (err_ok h)
  compares_in x y (Pointer i path past) a b ha hb e h = absurd (err_ok h)
  compares_in x y (FunctionCell key) a b ha hb e h = (
    kept_in p space system is F closed grounds number n node site at of_call target function is_target library is_library memory all no_value (Calls (FunctionCell key) (one_cell a ∷ one_cell b ∷ [])) e tt h,
    subst (λ (z : Effected). BackIn g memory (FunctionCell key) x y z.outcome.next) (ok_one h) (refl, a, b, refl, ha, hb),
  )

  checked_inv : (count size : ℕ) (found x : Found) → checked_array p.types count size found ≡ Ok x → found ≡ x
  checked_inv count size found x h = by (size_in p.types found.run.of) h
    where
      sized : (k : ℕ) (b : Bool) → cond b (within count found.run.room >>= (λ m. let r : Result Found Reason = Ok found in r)) (Err Mismatch) ≡ Ok x → found ≡ x
      sized k false f = absurd (err_ok f)
      sized k true f = (let q = went (within count found.run.room) _ x f in ok_one q.2)

      by : (o : Option ℕ) → elim o as (λ _. Result Found Reason) [ None ↦ Err Mismatch | Some m ↦ cond (m == size) (within count found.run.room >>= (λ m. let r : Result Found Reason = Ok found in r)) (Err Mismatch) ] ≡ Ok x → found ≡ x
      by None f = absurd (err_ok f)
      by (Some m) f = sized m (m == size) f

  array_inv : (place : Cell) (count size : ℕ) (found : Found) → array_at p.types memory place count size ≡ Ok found → found_at p.types memory place ≡ Ok found
  array_inv place count size found h =
      let q = went (found_at p.types memory place) (checked_array p.types count size) found h in
      q.1 ∙ ap (λ (x : Found). let r : Result Found Reason = Ok x in r) (checked_inv count size q.0 found q.2)

  -- qsort: a turn of it
  pub sort_row_in : (a : ℕ) (ta : Ctype) → type_at (trees_in p) a ≡ PointerTo ta → (word : ℕ) (a1 a2 a3 a4 : Cell) → HeldIn g w memory a (one_cell a1)
      → (e : Effected) → sort_row p.types memory word a1 a2 a3 a4 ≡ Ok e → IsCovered p space system is F closed grounds number n node site at of_call target function is_target library is_library memory e × BackIn g memory a4 (row_in w a) (row_in w a) e.outcome.next
  sort_row_in a ta tya word a1 a2 a3 a4 h1 e r =
      let q = went (array_at p.types memory a1 (count_of a2) (count_of a3)) (sort_turn p.types memory (count_of a2) word a4) e r in
      by q.0 (found_inv p.types memory a1 q.0 (array_inv a1 (count_of a2) (count_of a3) q.0 q.1)) (word == 0 || count_of a2 == 0) q.2
    where
      held : CellIn g memory (Some (row_in w a)) a1
      held = held_cell p space system is F closed grounds a ta memory a1 tya h1

      element : (found : Found) → IsRun p.types memory a1 found → (k : ℕ) → CellIn g memory (Some (row_in w a)) (element_at found k)
      element found s k = element_in g system grounds memory all (Some (row_in w a)) a1 found held s k

      turn : (found : Found) → IsRun p.types memory a1 found → (b : Bool)
          → cond b (compares memory a4 (element_at found (first_of (count_of a2) word)) (element_at found (second_of (count_of a2) word)))
          (swapped p.types memory found (first_of (count_of a2) word) (second_of (count_of a2) word) >>= swaps p.types memory found) ≡ Ok e
          → IsCovered p space system is F closed grounds number n node site at of_call target function is_target library is_library memory e × BackIn g memory a4 (row_in w a) (row_in w a) e.outcome.next
      turn found s true f =
          compares_in (row_in w a) (row_in w a) a4 (element_at found (first_of (count_of a2) word)) (element_at found (second_of (count_of a2) word))
          (element found s (first_of (count_of a2) word)) (element found s (second_of (count_of a2) word)) e f
      turn found s false f =
          let q = went (swapped p.types memory found (first_of (count_of a2) word) (second_of (count_of a2) word)) (swaps p.types memory found) e f in (
            answered p space system is F closed grounds number n node site at of_call target function is_target library is_library memory (with_all p.types memory found.number found.run.of q.0) (record { value = no_value; stores = pointers_of found.number q.0; next = Again }) e
                (swap_in g system grounds memory all (Some (row_in w a)) a1 found held s (first_of (count_of a2) word) (second_of (count_of a2) word) q.0 q.1) tt
                (swap_stored g system grounds memory all (Some (row_in w a)) a1 found held s (first_of (count_of a2) word) (second_of (count_of a2) word) q.0 q.1) q.2,
            subst (λ (z : Effected). BackIn g memory a4 (row_in w a) (row_in w a) z.outcome.next) (ok_one q.2) tt,
          )

      by : (found : Found) → IsRun p.types memory a1 found → (b : Bool)
          → cond b (gives memory no_value) (cond (is_odd word) (compares memory a4 (element_at found (first_of (count_of a2) word)) (element_at found (second_of (count_of a2) word)))
          (swapped p.types memory found (first_of (count_of a2) word) (second_of (count_of a2) word) >>= swaps p.types memory found)) ≡ Ok e
          → IsCovered p space system is F closed grounds number n node site at of_call target function is_target library is_library memory e × BackIn g memory a4 (row_in w a) (row_in w a) e.outcome.next
      by found s true f = (kept_in p space system is F closed grounds number n node site at of_call target function is_target library is_library memory all no_value Done e tt f, subst (λ (z : Effected). BackIn g memory a4 (row_in w a) (row_in w a) z.outcome.next) (ok_one f) tt)
      by found s false f = turn found s (is_odd word) f

  -- bsearch: a turn of it
  pub find_row_in : (a b : ℕ) (ta tb to : Ctype) → Contains function.effects (GivesArgument 2) → IsArgument (trees_in p) node 1 b
      → type_at (trees_in p) a ≡ PointerTo ta → type_at (trees_in p) b ≡ PointerTo tb → type_at (trees_in p) n ≡ PointerTo to
      → (word : ℕ) (a1 a2 a3 a4 a5 : Cell) → HeldIn g w memory a (one_cell a1) → HeldIn g w memory b (one_cell a2)
      → (e : Effected) → find_row p.types memory word a1 a2 a3 a4 a5 ≡ Ok e → IsCovered p space system is F closed grounds number n node site at of_call target function is_target library is_library memory e × BackIn g memory a5 (row_in w a) (row_in w b) e.outcome.next
  find_row_in a b ta tb to gives_it b_is tya tyb tn word a1 a2 a3 a4 a5 h1 h2 e r =
      let q = went (array_at p.types memory a2 (count_of a3) (count_of a4)) (find_turn memory (count_of a3) word a1 a5) e r in
      by q.0 (found_inv p.types memory a2 q.0 (array_inv a2 (count_of a3) (count_of a4) q.0 q.1)) (word == 0 || count_of a3 == 0) q.2
    where
      element : (found : Found) → IsRun p.types memory a2 found → (k : ℕ) → CellIn g memory (Some (row_in w b)) (element_at found k)
      element found s k = element_in g system grounds memory all (Some (row_in w b)) a2 found (held_cell p space system is F closed grounds b tb memory a2 tyb h2) s k

      turn : (found : Found) → IsRun p.types memory a2 found → (t : Bool)
          → cond t (compares memory a5 a1 (element_at found (first_of (count_of a3) word))) (gives memory (one_cell (element_at found (first_of (count_of a3) word)))) ≡ Ok e
          → IsCovered p space system is F closed grounds number n node site at of_call target function is_target library is_library memory e × BackIn g memory a5 (row_in w a) (row_in w b) e.outcome.next
      turn found s true f =
          compares_in (row_in w a) (row_in w b) a5 a1 (element_at found (first_of (count_of a3) word)) (held_cell p space system is F closed grounds a ta memory a1 tya h1) (element found s (first_of (count_of a3) word)) e f
      turn found s false f = (
        kept_in p space system is F closed grounds number n node site at of_call target function is_target library is_library memory all (one_cell (element_at found (first_of (count_of a3) word))) Done e
            (gives_argument_in p space system is F closed grounds number n node site at of_call target function is_target library is_library 1 b to tb gives_it b_is tyb tn memory (element_at found (first_of (count_of a3) word))
            (cell_held p space system is F closed grounds b tb memory (element_at found (first_of (count_of a3) word)) tyb (element found s (first_of (count_of a3) word)))) f,
        subst (λ (z : Effected). BackIn g memory a5 (row_in w a) (row_in w b) z.outcome.next) (ok_one f) tt,
      )

      by : (found : Found) → IsRun p.types memory a2 found → (t : Bool)
          → cond t (gives memory null_value) (cond (is_odd word) (compares memory a5 a1 (element_at found (first_of (count_of a3) word))) (gives memory (one_cell (element_at found (first_of (count_of a3) word))))) ≡ Ok e
          → IsCovered p space system is F closed grounds number n node site at of_call target function is_target library is_library memory e × BackIn g memory a5 (row_in w a) (row_in w b) e.outcome.next
      by found s true f = (null_done p space system is F closed grounds number n node site at of_call target function is_target library is_library to tn memory all e f, subst (λ (z : Effected). BackIn g memory a5 (row_in w a) (row_in w b) z.outcome.next) (ok_one f) tt)
      by found s false f = turn found s (is_odd word) f
