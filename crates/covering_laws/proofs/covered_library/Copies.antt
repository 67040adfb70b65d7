-- memcpy and memmove: the elements of one place are put under those of another.
use Rattle.std.proofs.Common.{◌≡◌, ◌∙◌, inl, inr, ℕ, zero, suc, ◌+◌, ◌<◌, Bool, true, false, cond, List, [], ◌∷◌, ◌++◌, Option, Some, None, Result, Ok, Err, IsSome, IsTrue, slice_get, Contains, refl, sym, ap, subst}
use Rattle.std.specs.Option.{option_map}
use Rattle.std.proofs.lemmas.Bool.{false≢true}
use Rattle.c_types.specs.declared.key.ObjectKey.{ObjectKey}
use Rattle.c_types.specs.declared.key.ObjectKey.TheVariants.{Varargs as VarargsKey, Outside as OutsideKey, Entity as EntityKey, Text as TextKey, Call as CallKey, Library as LibraryKey, Star as StarKey, Function as FunctionKey}
use Rattle.c_types.specs.declared.term.PathStep.{PathStep}
use Rattle.c_types.specs.declared.term.PathStep.TheVariants.{Index}
use Rattle.c_types.specs.declared.term.Term.{Term}
use Rattle.c_types.specs.declared.term.Term.TheVariants.{Array, Pointer as PointerTerm, Function as FunctionTerm, Structure, Union}
use Rattle.c_types.specs.declared.term.TypeId.{TypeId}
use Rattle.c_types.specs.Trees.{Ctype, ArrayOf}
use Rattle.c_types.specs.Table.{Table, type_of, extent_in, size_below}
use Rattle.c_types.specs.Made.{AreNamed}
use Rattle.type_rules.proofs.term_types.Grown.{types_grown}
use Rattle.sol_model.specs.declared.system.System.{System}
use Rattle.sol_model.specs.Families.{Has, IsContained}
use Rattle.sol_model.specs.Places.{nodes_of as system_nodes, deep}
use Rattle.obj_space.specs.Spots.{Reached, reached, part_at}
use Rattle.row_numbers.specs.Kept.{nodes_of, kept_at}
use Rattle.row_numbers.specs.Numbers.{type_number}
use Rattle.ref_cells.specs.declared.cells.Reason.{Reason}
use Rattle.ref_cells.specs.declared.cells.Reason.TheVariants.{DeadUse}
use Rattle.ref_cells.specs.declared.cells.Cell.{Cell}
use Rattle.ref_cells.specs.declared.cells.Cell.TheVariants.{Unset, Number, Null, Pointer, Function}
use Rattle.ref_cells.specs.declared.instance.Instance.{Instance}
use Rattle.ref_cells.specs.declared.wholes.Whole.{Whole}
use Rattle.ref_cells.specs.declared.wholes.Whole.TheVariants.{One, Many}
use Rattle.ref_cells.specs.Cells.{CellList}
use Rattle.ref_cells.specs.Wholes.{is_allocated, elements_of, whole_of, typed_whole, shape_of}
use Rattle.ref_cells.specs.Values.{filled}
use Rattle.ref_mem.specs.Reads.{opened, content}
use Rattle.ref_mem.specs.Writes.{put_all, with_parts, type_or, typed_as}
use Rattle.ref_elements.specs.declared.runs.Run.{Run}
use Rattle.ref_elements.specs.declared.runs.Found.{Found}
use Rattle.ref_elements.specs.Parts.{Parts, pointers_of, with_all}
use Rattle.ref_elements.specs.Runs.{◌>>=◌, whole_id, term_part, term_count, indexed, run_from, element_path, with_run, found_as, live_at, found_at, content_in, content_at}
use Rattle.ref_copies.specs.Copies.{push_part, copied, target_run, target_for}
use Rattle.covering_laws.specs.covered_memory.Spots.{spot, whole_part, IsFurther, room, IsInTree}
use Rattle.covering_laws.specs.covered_memory.Covered.{Sets, PointsIn, CellIn, pointer_row, CellsIn, object_row, HasShape, InstanceIn, MemoryIn, GoesOn, Leaves}
use Rattle.covering_laws.specs.covered_memory.Demands.{Grounds, IsFew}
use Rattle.covering_laws.proofs.covered_memory.Cells.{each_change}
use Rattle.covering_laws.proofs.covered_memory.Filled.{nowhere}
use Rattle.covering_laws.proofs.covered_memory.Puts.{opened_each, part_along}
use Rattle.covering_laws.proofs.covered_memory.Parts.{path_complete}
use Rattle.covering_laws.proofs.covered_memory.Anchors.{spot_is}
use Rattle.covering_laws.proofs.covered_memory.Stays.{goes_on, cells_out}
use Rattle.covering_laws.proofs.covered_memory.Access.{Target, shape_complete, filled_in}
use Rattle.covering_laws.proofs.covered_memory.Changes.{Takes, typed_in, change_law, PartsIn, parts_own}
use Rattle.covering_laws.proofs.covered_library.Deep.{cells_copied}
use Rattle.covering_laws.specs.covered_library.Calls.{StoresIn}
use Rattle.covering_laws.proofs.covered_library.Stores.{parts_stored}
use Rattle.covering_laws.proofs.covered_library.Runs.{run_parts, run_type, whole_shape, IsRun, found_inv}

some_one : {X : Type 0} → {x y : X} → ◌≡◌ {A = Option X} (Some x) (Some y) → x ≡ y
some_one h = cc

none_some : {X : Type 0} → {x : X} → ◌≡◌ {A = Option X} None (Some x) → ⊥
none_some h = cc

ok_one : {X : Type 0} → {x y : X} → ◌≡◌ {A = Result X Reason} (Ok x) (Ok y) → x ≡ y
ok_one h = cc

err_ok : {X : Type 0} → {r : Reason} → {x : X} → ◌≡◌ {A = Result X Reason} (Err r) (Ok x) → ⊥
err_ok h = cc

there : {X : Type 0} (o : Option X) → IsSome o → (x : X) × (o ≡ Some x)
there None h = absurd (false≢true h)
there (Some x) h = (x, refl)

-- no array is its own element
never_own : (t : Ctype) (n : Option ℕ) → t ≡ ArrayOf t n → ⊥
never_own (ArrayOf of k) n e = never_own of k (let same : of ≡ ArrayOf of k = cc in same)
never_own t n e = (let bad : t ≡ ArrayOf t n = e in cc)

-- elements at an index of a whole that isn't one of many are those of an array
element_of : (table : Table) → AreNamed table → (id : TypeId) (i : ℕ) (past : Bool) (run : Run) → run_from table (Some (One id)) (Index i ∷ []) past ≡ Some run
    → (n : Option ℕ) × (type_of table id.0 ≡ ArrayOf (type_of table run.of.0) n)
element_of table named id i past run e = by (slice_get table.terms id.0) refl e
  where
    by : (o : Option Term) → slice_get table.terms id.0 ≡ o → indexed past i (term_count o) (term_part table o (Index i)) ≡ Some run → (n : Option ℕ) × (type_of table id.0 ≡ ArrayOf (type_of table run.of.0) n)
    by (Some (Array of (Some n))) is f =
        (Some n, types_grown table id.0 (Array of (Some n)) named is ∙ ap (λ (r : Run). ArrayOf (type_of table r.of.0) (Some n)) (some_one f))
    by (Some (Array of None)) is f = absurd (none_some f)
    by (Some (PointerTerm to)) is f = absurd (none_some f)
    by (Some (FunctionTerm a b c)) is f = absurd (none_some f)
    by (Some (Structure tag)) is f = absurd (none_some f)
    by (Some (Union tag)) is f = absurd (none_some f)
    by (Some t) is f = absurd (none_some f)
    by None is f = absurd (none_some f)

further_plain : (key : ObjectKey) → IsFurther key → is_allocated key ≡ false
further_plain (VarargsKey e) f = refl
further_plain (EntityKey e) f = absurd f
further_plain (TextKey n) f = absurd f
further_plain (CallKey n) f = absurd f
further_plain (LibraryKey k) f = absurd f
further_plain (StarKey k) f = absurd f
further_plain OutsideKey f = absurd f
further_plain (FunctionKey k) f = absurd f

-- where a target is, and what its elements are once it has a type
pub record IsTarget (table : Table) (memory : List Instance) (place : Cell) (id : TypeId) (found : Found) : Type 0 where
  pub i : ℕ
  pub path : List PathStep
  pub past : Bool
  pub place_is : place ≡ Pointer i path past
  pub inst : Instance
  pub inst_is : slice_get memory i ≡ Some inst
  pub own : TypeId
  pub ty_is : type_or id inst.ty ≡ Some own
  pub run_is : run_from table (Some (whole_id table (typed_as id inst) own)) path past ≡ Some found.run
  pub number_is : found.number ≡ i

pub target_inv : (table : Table) (memory : List Instance) (place : Cell) (id : TypeId) (found : Found) → target_for table memory place id ≡ Ok found → IsTarget table memory place id found
target_inv table memory Null id found e = absurd (err_ok e)
target_inv table memory Unset id found e = absurd (err_ok e)
target_inv table memory (Number n) id found e = absurd (err_ok e)
target_inv table memory (Function key) id found e = absurd (err_ok e)
target_inv table memory (Pointer i path past) id found e = by (slice_get memory i) refl e
  where
    ran : (inst : Instance) → slice_get memory i ≡ Some inst → (own : TypeId) → type_or id inst.ty ≡ Some own → (o : Option Run) → run_from table (Some (whole_id table (typed_as id inst) own)) path past ≡ o → with_run i o ≡ Ok found
        → IsTarget table memory (Pointer i path past) id found
    ran inst at own ty None r f = absurd (err_ok f)
    ran inst at own ty (Some run) r f = record {
      i = i;
      path = path;
      past = past;
      place_is = refl;
      inst = inst;
      inst_is = at;
      own = own;
      ty_is = ty;
      run_is = r ∙ ap (λ (x : Found). Some x.run) (ok_one f);
      number_is = sym (ap (λ (x : Found). x.number) (ok_one f));
    }

    typed : (inst : Instance) → slice_get memory i ≡ Some inst → (o : Option TypeId) → type_or id inst.ty ≡ o → found_as table i (typed_as id inst) path past o ≡ Ok found → IsTarget table memory (Pointer i path past) id found
    typed inst at None ty f = absurd (err_ok f)
    typed inst at (Some own) ty f = ran inst at own ty (run_from table (Some (whole_id table (typed_as id inst) own)) path past) refl f

    lives : (inst : Instance) → slice_get memory i ≡ Some inst → (b : Bool) → (let r : Result Instance Reason = cond b (Ok inst) (Err DeadUse) in r) >>= (λ x. target_run table (Pointer i path past) (typed_as id x)) ≡ Ok found
        → IsTarget table memory (Pointer i path past) id found
    lives inst at true f = typed inst at (type_or id inst.ty) refl f
    lives inst at false f = absurd (err_ok f)

    by : (o : Option Instance) → slice_get memory i ≡ o → live_at o >>= (λ x. target_run table (Pointer i path past) (typed_as id x)) ≡ Ok found → IsTarget table memory (Pointer i path past) id found
    by None at f = absurd (err_ok f)
    by (Some inst) at f = lives inst at inst.live f

module _ (g : Sets) (system : System) (grounds : Grounds g.table g.space system) (memory : List Instance) (all : MemoryIn g memory) where
  -- an instance that has a part has a type
  part_plain : (inst : Instance) → InstanceIn g memory inst → (path : List PathStep) (part : Reached) → part_at g.table (whole_part (whole_of g.table inst)) path ≡ Some part → IsFurther inst.key → ⊥
  part_plain inst inside path part is f =
      none_some (sym (nowhere g.table path) ∙ (sym (ap (λ (t : Option TypeId). part_at g.table (whole_part (typed_whole g.table inst t)) path) (inside.further f).0) ∙ is))

  -- all cells of a part of an instance, at the rows of its own nodes
  pub source_cells : (inst : Instance) (inside : InstanceIn g memory inst) (path : List PathStep) (part : Reached) (t : Ctype) → part_at g.table (whole_part (whole_of g.table inst)) path ≡ Some part → part.ty ≡ t
      → (cells : CellList) → content g.table inst path t ≡ Some cells → CellsIn g memory (object_row inside.location.content inside.first) (Some part) cells
  source_cells inst inside path part t part_is ty cells e = by (opened g.table (whole_of g.table inst) path inst.cells) refl e
    where
      own : ℕ → ℕ
      own n = object_row inside.location.content inside.first n

      by : (o : Option CellList) → opened g.table (whole_of g.table inst) path inst.cells ≡ o → option_map (filled g.table inst.zero t) o ≡ Some cells
          → CellsIn g memory (object_row inside.location.content inside.first) (Some part) cells
      by None is f = absurd (none_some f)
      by (Some list) is f =
          let row : ℕ → ℕ = object_row inside.location.content inside.first in
          let whole = whole_part (whole_of g.table inst) in
          let listed : CellsIn g memory row (Some part) list =
          each_change (λ p c. CellIn g memory (pointer_row row (part_at g.table whole (path ++ p))) c) (λ p c. CellIn g memory (pointer_row row (part_at g.table (Some part) p)) c) list
          (λ p c x. subst (λ (q : Option Reached). CellIn g memory (pointer_row row q) c) (part_along g.table whole path p ∙ ap (λ (q : Option Reached). part_at g.table q p) part_is) x)
          (opened_each g.table (λ p c. CellIn g memory (pointer_row row (part_at g.table whole p)) c) (whole_of g.table inst) path inst.cells list
          (cells_out g memory inst inside.location.content inside.first (part_plain inst inside path part part_is) inst.cells inside.cells) is) in
          subst (λ (cs : CellList). CellsIn g memory row (Some part) cs) (some_one f) (filled_in g system grounds memory row inst.zero t (Some part) list ty listed)

  -- the parts that are put, where each is covered at its place
  copied_parts : (row : ℕ → ℕ) (whole : Option Reached) (source : Found) (target : Run)
      → ((k : ℕ) (cells : CellList) → content_at g.table memory source k ≡ Some cells → CellsIn g memory row (part_at g.table whole (element_path target k)) cells)
      → (k n : ℕ) (parts : Parts) → copied g.table memory source target k n ≡ Ok parts → PartsIn g system grounds memory row whole parts
  copied_parts row whole source target each k zero parts e = subst (PartsIn g system grounds memory row whole) (ok_one e) tt
  copied_parts row whole source target each k (suc n) parts e =
      by (content_at g.table memory source k) refl (copied g.table memory source target (k + 1) n) refl e (λ ps. copied_parts row whole source target each (k + 1) n ps)
    where
      by : (o : Option CellList) → content_at g.table memory source k ≡ o → (r : Result Parts Reason) → copied g.table memory source target (k + 1) n ≡ r → push_part (element_path target k) o r ≡ Ok parts
          → ((ps : Parts) → copied g.table memory source target (k + 1) n ≡ Ok ps → PartsIn g system grounds memory row whole ps) → PartsIn g system grounds memory row whole parts
      by None is r rest f next = absurd (err_ok f)
      by (Some cells) is (Err reason) rest f next = absurd (err_ok f)
      by (Some cells) is (Ok ps) rest f next = subst (PartsIn g system grounds memory row whole) (ok_one f) (each k cells is, next ps rest)

  -- an instance that gets a type where it has none
  pub typed_step : (a : Instance) (id : TypeId) (h : InstanceIn g memory a) → IsSome (extent_in g.table (type_of g.table id.0)) → (a.ty ≡ None → IsTrue (is_allocated a.key)) → (a.ty ≡ None → Takes g system grounds id h.location.content)
      → GoesOn g a (typed_as id a) × InstanceIn g memory (typed_as id a)
  typed_step a id h complete heap takes = by a.ty refl
    where
      by : (o : Option TypeId) → a.ty ≡ o → GoesOn g a (typed_as id a) × InstanceIn g memory (typed_as id a)
      by None is =
          subst (λ (x : Instance). GoesOn g a x × InstanceIn g memory x) (sym (ap (λ (t : Option TypeId). let r : Instance = record a { ty = type_or id t } in r) is)) (typed_in g system grounds memory a id is (heap is) complete h (takes is))
      by (Some own) is =
          let same : a ≡ typed_as id a = ap (λ (t : Option TypeId). let r : Instance = record a { ty = t } in r) is ∙ sym (ap (λ (t : Option TypeId). let r : Instance = record a { ty = type_or id t } in r) is) in
          subst (λ (x : Instance). GoesOn g a x × InstanceIn g memory x) same (goes_on g a, h)

  -- the location of a part that a pointer in a row points to is in the row
  pub has_part : (through i : ℕ) (path : List PathStep) (a x : Instance) → slice_get memory i ≡ Some a → PointsIn g memory (Some through) i path → x.key ≡ a.key → (inside : InstanceIn g memory x) (whole : Ctype) → whole_of g.table x ≡ Some whole
      → (part : Reached) → part_at g.table (Some (reached whole 0 false)) path ≡ Some part → Has g.family through (object_row inside.location.content inside.first part.node)
  has_part through i path a x at p key inside whole whole_is part part_is =
      let same : p.inst ≡ a = some_one (sym p.inst_is ∙ at) in
      let found = spot_is g.table g.space system grounds x.key inside.first inside.location inside.first_is inside.location_is (Some whole) (subst (HasShape g.table inside.location.content) whole_is inside.shape) path part part_is in
      let here : p.lands.location ≡ object_row inside.location.content inside.first part.node =
      some_one (sym p.lands.found_is ∙ (ap (λ (y : Instance). spot g.table g.space y.key path) same ∙ (ap (λ (k : ObjectKey). spot g.table g.space k path) (sym key) ∙ found))) in
      subst (λ (k : ℕ). Has g.family through k) here (subst (λ (k : ℕ). Has g.family k p.lands.location) (sym (some_one p.lands.row_is)) p.lands.has)

  -- memcpy and memmove leave a covered memory covered, where a copy joins what the places' rows have
  pub copy_in : (to from : ℕ) (place other : Cell) (source target : Found) → CellIn g memory (Some to) place → CellIn g memory (Some from) other
      → ((d s : ℕ) → Has g.family to d → Has g.family from s → (x y : ℕ) → Contains (deep system d s) (x, y) → IsContained g.family y x)
      → IsFew g.table (type_of g.table source.run.of.0)
      → ((i : ℕ) → kept_at (slice_get (nodes_of g.table (type_of g.table source.run.of.0)) i) ≡ true → i < system_nodes system (type_number (type_of g.table source.run.of.0)))
      → ((i : ℕ) (a : Instance) → slice_get memory i ≡ Some a → (h : InstanceIn g memory a) → a.ty ≡ None → Takes g system grounds source.run.of h.location.content)
      → found_at g.table memory other ≡ Ok source → target_for g.table memory place source.run.of ≡ Ok target → type_of g.table target.run.of.0 ≡ type_of g.table source.run.of.0
      → (k n : ℕ) (parts : Parts) → copied g.table memory source target.run k n ≡ Ok parts
      → Leaves g memory (with_all g.table memory target.number source.run.of parts) × StoresIn g (with_all g.table memory target.number source.run.of parts) (pointers_of target.number parts)
  copy_in to from place other source target place_in other_in joined few counts takes source_is target_is same_types k n parts parts_are =
      subst (λ (m : ℕ). Leaves g memory (with_all g.table memory m source.run.of parts) × StoresIn g (with_all g.table memory m source.run.of parts) (pointers_of m parts)) (sym t.number_is) (left, stored)
    where
      s : IsRun g.table memory other source
      s = found_inv g.table memory other source source_is

      t : IsTarget g.table memory place source.run.of target
      t = target_inv g.table memory place source.run.of target target_is

      source_in : InstanceIn g memory s.inst
      source_in = all s.i s.inst s.inst_is

      source_whole : whole_of g.table s.inst ≡ Some (shape_of g.table (whole_id g.table s.inst s.id))
      source_whole = ap (typed_whole g.table s.inst) s.ty_is ∙ whole_shape g.table s.inst s.id

      source_points : PointsIn g memory (Some from) s.i s.path
      source_points = subst (CellIn g memory (Some from)) s.place_is other_in

      source_tree : IsInTree g.table (Some (shape_of g.table (whole_id g.table s.inst s.id))) (room s.inst) s.path
      source_tree =
          subst (λ (w : Option Ctype). IsInTree g.table w (room s.inst) s.path) source_whole
          (subst (λ (x : Instance). IsInTree g.table (whole_of g.table x) (room x) s.path) (some_one (sym source_points.inst_is ∙ s.inst_is)) source_points.in_tree)

      source_part : (r : Reached) × (part_at g.table (Some (reached (shape_of g.table (whole_id g.table s.inst s.id)) 0 false)) s.path ≡ Some r)
      source_part = there (part_at g.table (Some (reached (shape_of g.table (whole_id g.table s.inst s.id)) 0 false)) s.path) source_tree

      source_ty : source_part.0.ty ≡ type_of g.table source.run.of.0
      source_ty = run_type g.table grounds.named (whole_id g.table s.inst s.id) s.path s.past source.run s.run_is 0 false source_part.0 source_part.1

      complete : IsSome (extent_in g.table (type_of g.table source.run.of.0))
      complete =
          subst (λ (c : Ctype). IsSome (extent_in g.table c)) source_ty
          (path_complete g.table grounds.made (shape_of g.table (whole_id g.table s.inst s.id)) 0 false s.path source_part.0
          (shape_complete g system grounds source_in.location.content (shape_of g.table (whole_id g.table s.inst s.id)) (subst (HasShape g.table source_in.location.content) source_whole source_in.shape)) source_part.1)

      a : Instance
      a = typed_as source.run.of t.inst

      target_in : InstanceIn g memory t.inst
      target_in = all t.i t.inst t.inst_is

      target_points : PointsIn g memory (Some to) t.i t.path
      target_points = subst (CellIn g memory (Some to)) t.place_is place_in

      -- what a variadic function is passed past its parameters is no target
      never_further : IsFurther t.inst.key → t.inst.ty ≡ None → ⊥
      never_further f none =
          let tree : IsInTree g.table None (room t.inst) t.path =
          subst (λ (o : Option TypeId). IsInTree g.table (typed_whole g.table t.inst o) (room t.inst) t.path) none
          (subst (λ (x : Instance). IsInTree g.table (whole_of g.table x) (room x) t.path) (some_one (sym target_points.inst_is ∙ t.inst_is)) target_points.in_tree) in
          let own_is : source.run.of ≡ t.own = some_one (sym (ap (type_or source.run.of) none) ∙ t.ty_is) in
          let whole_is : whole_id g.table (typed_as source.run.of t.inst) t.own ≡ One t.own =
          ap (λ (b : Bool). cond b (Many t.own (elements_of t.inst.key t.inst.bytes (size_below (extent_in g.table (type_of g.table t.own.0))))) (One t.own)) (further_plain t.inst.key f) in
          let run : run_from g.table (Some (One t.own)) (Index tree.0 ∷ []) t.past ≡ Some target.run =
          ap (λ (w : Whole). run_from g.table (Some w) (Index tree.0 ∷ []) t.past) (sym whole_is)
          ∙ (ap (λ (p : List PathStep). run_from g.table (Some (whole_id g.table (typed_as source.run.of t.inst) t.own)) p t.past) (sym tree.1) ∙ t.run_is) in
          let element = element_of g.table grounds.named t.own tree.0 t.past target.run run in
          never_own (type_of g.table target.run.of.0) element.0 (same_types ∙ (ap (λ (x : TypeId). type_of g.table x.0) own_is ∙ element.1))

      target_heap : t.inst.ty ≡ None → IsTrue (is_allocated t.inst.key)
      target_heap none = elim (target_in.untyped none) [ inl heap ↦ heap | inr f ↦ absurd (never_further f none) ]

      step : GoesOn g t.inst (typed_as source.run.of t.inst) × InstanceIn g memory (typed_as source.run.of t.inst)
      step = typed_step t.inst source.run.of target_in complete target_heap (takes t.i t.inst t.inst_is target_in)

      target_whole : whole_of g.table (typed_as source.run.of t.inst) ≡ Some (shape_of g.table (whole_id g.table (typed_as source.run.of t.inst) t.own))
      target_whole = ap (typed_whole g.table (typed_as source.run.of t.inst)) t.ty_is ∙ whole_shape g.table (typed_as source.run.of t.inst) t.own

      target_tree : IsInTree g.table (Some (shape_of g.table (whole_id g.table (typed_as source.run.of t.inst) t.own))) (room t.inst) t.path
      target_tree =
          subst (λ (w : Option Ctype). IsInTree g.table w (room t.inst) t.path) target_whole
          (step.0.in_tree t.path (subst (λ (x : Instance). IsInTree g.table (whole_of g.table x) (room x) t.path) (some_one (sym target_points.inst_is ∙ t.inst_is)) target_points.in_tree))

      target_part : (r : Reached) × (part_at g.table (Some (reached (shape_of g.table (whole_id g.table (typed_as source.run.of t.inst) t.own)) 0 false)) t.path ≡ Some r)
      target_part = there (part_at g.table (Some (reached (shape_of g.table (whole_id g.table (typed_as source.run.of t.inst) t.own)) 0 false)) t.path) target_tree

      target_ty : target_part.0.ty ≡ type_of g.table target.run.of.0
      target_ty = run_type g.table grounds.named (whole_id g.table (typed_as source.run.of t.inst) t.own) t.path t.past target.run t.run_is 0 false target_part.0 target_part.1

      to_at : ℕ
      to_at = object_row step.1.location.content step.1.first target_part.0.node

      from_at : ℕ
      from_at = object_row source_in.location.content source_in.first source_part.0.node

      one : Target g system grounds memory (λ l. l ≡ object_row step.1.location.content step.1.first target_part.0.node) (typed_as source.run.of t.inst) t.path
      one = record { inside = step.1; whole = shape_of g.table (whole_id g.table (typed_as source.run.of t.inst) t.own); whole_is = target_whole; part = target_part.0; part_is = target_part.1; has = refl }

      two : Target g system grounds memory (λ l. l ≡ object_row source_in.location.content source_in.first source_part.0.node) s.inst s.path
      two = record { inside = source_in; whole = shape_of g.table (whole_id g.table s.inst s.id); whole_is = source_whole; part = source_part.0; part_is = source_part.1; has = refl }

      to_has : Has g.family to (object_row step.1.location.content step.1.first target_part.0.node)
      to_has = has_part to t.i t.path t.inst (typed_as source.run.of t.inst) t.inst_is target_points step.0.key step.1 (shape_of g.table (whole_id g.table (typed_as source.run.of t.inst) t.own)) target_whole target_part.0 target_part.1

      from_has : Has g.family from (object_row source_in.location.content source_in.first source_part.0.node)
      from_has = has_part from s.i s.path s.inst s.inst s.inst_is source_points refl source_in (shape_of g.table (whole_id g.table s.inst s.id)) source_whole source_part.0 source_part.1

      moved_cells : (cells : CellList) → CellsIn g memory (object_row source_in.location.content source_in.first) (Some source_part.0) cells
          → CellsIn g memory (object_row step.1.location.content step.1.first) (Some target_part.0) cells
      moved_cells cells h =
          cells_copied g system grounds memory (λ l. l ≡ object_row step.1.location.content step.1.first target_part.0.node) (λ l. l ≡ object_row source_in.location.content source_in.first source_part.0.node)
          (typed_as source.run.of t.inst) s.inst t.path s.path one two (source_ty ∙ (sym same_types ∙ sym target_ty))
          (subst (IsFew g.table) (sym source_ty) few)
          (subst (λ (c : Ctype). (i : ℕ) → kept_at (slice_get (nodes_of g.table c) i) ≡ true → i < system_nodes system (type_number c)) (sym source_ty) counts)
          (joined (object_row step.1.location.content step.1.first target_part.0.node) (object_row source_in.location.content source_in.first source_part.0.node) to_has from_has) cells h

      element : (j : ℕ) (cells : CellList) → content_at g.table memory source j ≡ Some cells
          → CellsIn g memory (object_row step.1.location.content step.1.first) (part_at g.table (whole_part (whole_of g.table (typed_as source.run.of t.inst))) (element_path target.run j)) cells
      element j cells e =
          let at : content g.table s.inst (element_path source.run j) (type_of g.table source.run.of.0) ≡ Some cells =
          sym (ap (λ (m : ℕ). content_in g.table (slice_get memory m) (element_path source.run j) (type_of g.table source.run.of.0)) s.number_is
          ∙ ap (λ (o : Option Instance). content_in g.table o (element_path source.run j) (type_of g.table source.run.of.0)) s.inst_is) ∙ e in
          let source_there : part_at g.table (whole_part (whole_of g.table s.inst)) (element_path source.run j) ≡ Some source_part.0 =
          ap (λ (w : Option Ctype). part_at g.table (whole_part w) (element_path source.run j)) source_whole
          ∙ (run_parts g.table (Some (whole_id g.table s.inst s.id)) s.path s.past source.run s.run_is j (Some (reached (shape_of g.table (whole_id g.table s.inst s.id)) 0 false)) ∙ source_part.1) in
          let target_there : part_at g.table (whole_part (whole_of g.table (typed_as source.run.of t.inst))) (element_path target.run j) ≡ Some target_part.0 =
          ap (λ (w : Option Ctype). part_at g.table (whole_part w) (element_path target.run j)) target_whole
          ∙ (run_parts g.table (Some (whole_id g.table (typed_as source.run.of t.inst) t.own)) t.path t.past target.run t.run_is j (Some (reached (shape_of g.table (whole_id g.table (typed_as source.run.of t.inst) t.own)) 0 false)) ∙ target_part.1) in
          subst (λ (o : Option Reached). CellsIn g memory (object_row step.1.location.content step.1.first) o cells) (sym target_there)
          (moved_cells cells (source_cells s.inst source_in (element_path source.run j) source_part.0 (type_of g.table source.run.of.0) source_there source_ty cells at))

      put : PartsIn g system grounds memory (object_row step.1.location.content step.1.first) (whole_part (whole_of g.table (typed_as source.run.of t.inst))) parts
      put = copied_parts (object_row step.1.location.content step.1.first) (whole_part (whole_of g.table (typed_as source.run.of t.inst))) source target.run element k n parts parts_are

      left : Leaves g memory (with_all g.table memory t.i source.run.of parts)
      left =
          change_law g system grounds memory t.i (λ inst. with_parts g.table parts (typed_as source.run.of inst)) all
          (λ a0 at0 h0. subst (λ (x : Instance). GoesOn g x (with_parts g.table parts (typed_as source.run.of x)) × InstanceIn g memory (with_parts g.table parts (typed_as source.run.of x))) (some_one (sym t.inst_is ∙ at0)) (
            record { key = step.0.key; in_tree = step.0.in_tree; whole = step.0.whole },
            parts_own g system grounds memory (typed_as source.run.of t.inst) step.1 parts put,
          ))

      stored : StoresIn g (with_all g.table memory t.i source.run.of parts) (pointers_of t.i parts)
      stored =
          let b = left.extends t.i t.inst t.inst_is in
          parts_stored g system grounds memory (typed_as source.run.of t.inst) step.1 (with_all g.table memory t.i source.run.of parts) left.extends t.i b.0 b.1 (b.2.key ∙ sym step.0.key) parts put
