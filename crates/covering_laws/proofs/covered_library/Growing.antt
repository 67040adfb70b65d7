-- The rows of realloc and of __ctype_b_loc.
use Rattle.std.proofs.Common.{arith, ◌≡◌, ◌∙◌, ℕ, pos, ◌<◌, ◌&&◌, ◌%◌, min, not, Bool, true, false, cond, List, [], ◌∷◌, length, map, set, Option, Some, None, Result, Ok, Err, slice_get, Contains, refl, sym, ap, subst}
use Rattle.std.proofs.lemmas.Bool.{false≢true}
use Rattle.pta_base.specs.declared.effect.Effect.TheVariants.{GivesNew, GivesObject, Copies}
use Rattle.c_types.specs.declared.key.ObjectKey.{ObjectKey}
use Rattle.c_types.specs.declared.key.ObjectKey.TheVariants.{Varargs as VarargsKey, Outside as OutsideKey}
use Rattle.c_types.specs.declared.key.ObjectKey.TheVariants.{Entity as EntityKey, Text as TextKey, Call as CallKey, Library as LibraryKey, Star as StarKey, Function as FunctionKey}
use Rattle.c_types.specs.declared.term.PathStep.{PathStep}
use Rattle.c_types.specs.declared.term.PathStep.TheVariants.{Index, Member}
use Rattle.c_types.specs.declared.term.TypeId.{TypeId}
use Rattle.c_types.specs.Trees.{Ctype, PointerTo, ArrayOf}
use Rattle.c_types.specs.Table.{Table, type_of, extent_in, size_below}
use Rattle.core_tree.specs.declared.node.Node.{Node}
use Rattle.core_tree.specs.declared.node.Program.{Program}
use Rattle.core_tree.specs.Typed.{trees_in, type_at}
use Rattle.sol_model.specs.declared.system.System.{System}
use Rattle.sol_model.specs.declared.system.CallSite.{CallSite}
use Rattle.sol_model.specs.declared.system.Function.{Function}
use Rattle.sol_model.specs.Families.{Family, Has, IsContained}
use Rattle.sol_model.specs.Places.{nodes_of as system_nodes, deep}
use Rattle.sol_model.specs.Rules.{IsTarget}
use Rattle.sol_model.specs.Solutions.{IsClosed}
use Rattle.obj_made.specs.declared.object.Content.{Content}
use Rattle.obj_made.specs.declared.object.Content.TheVariants.{Function as FunctionContent, Blob, Scalar, Scalars, Typed, Elements}
use Rattle.obj_space.specs.declared.location.Location.{Location}
use Rattle.obj_space.specs.Spots.{reached}
use Rattle.obj_space.specs.View.{view_of}
use Rattle.row_numbers.specs.Kept.{nodes_of, kept_at}
use Rattle.row_numbers.specs.Numbers.{type_number}
use Rattle.row_numbers.specs.Setting.{Setting}
use Rattle.ref_cells.specs.declared.cells.Reason.{Reason}
use Rattle.ref_cells.specs.declared.cells.Reason.TheVariants.{Mismatch}
use Rattle.ref_cells.specs.declared.cells.Cell.{Cell}
use Rattle.ref_cells.specs.declared.cells.Cell.TheVariants.{Unset, Number, Null, Pointer, Function as FunctionCell}
use Rattle.ref_cells.specs.declared.instance.Instance.{Instance}
use Rattle.ref_cells.specs.Cells.{CellList}
use Rattle.ref_cells.specs.Values.{filled, listed as all_listed}
use Rattle.ref_cells.specs.Wholes.{is_allocated, is_heap, elements_in, elements_of, typed_whole, whole_of}
use Rattle.ref_mem.specs.Reads.{one_cell}
use Rattle.ref_elements.specs.declared.outcome.Next.TheVariants.{Done}
use Rattle.ref_elements.specs.Arguments.{count_of}
use Rattle.ref_elements.specs.Objects.{is_odd, with_new, is_start, object_from}
use Rattle.ref_elements.specs.Outcomes.{Effected, gives, null_value, start_value, pointers_in}
use Rattle.ref_lib.specs.ref_alloc.Allocation.{is_live_heap, heap_at, ended, kept_elements, takes, regrown_in, regrown, regrown_at, realloc_of, realloc_row, all_number, ctype_set, ctype_in, ctype_row}
use Rattle.call_sites.specs.Calls.{IsCallSite}
use Rattle.normal_form.specs.Assignments.{row_in}
use Rattle.normal_form.specs.SystemOf.{SystemOf}
use Rattle.covering_laws.specs.covered_memory.Spots.{whole_part}
use Rattle.covering_laws.specs.covered_memory.Covered.{Sets, PointsIn, CellIn, CellsIn, object_row, InstanceIn, MemoryIn}
use Rattle.covering_laws.specs.covered_memory.Demands.{Grounds, IsFew}
use Rattle.covering_laws.proofs.covered_memory.Access.{with_cells}
use Rattle.covering_laws.proofs.covered_memory.Changes.{end_law}
use Rattle.covering_laws.proofs.covered_memory.Stays.{then_extends, value_stays, replaced}
use Rattle.covering_laws.specs.covered_rows.Nodes.{IsArgument, HeldIn, node_row}
use Rattle.covering_laws.proofs.covered_rows.Places.{held_cell}
use Rattle.covering_laws.proofs.covered_rows.Values.{sets, w'}
use Rattle.covering_laws.proofs.covered_library.Effects.{edge_says, argument_is, get_more, gives_new_in}
use Rattle.covering_laws.proofs.covered_library.Stores.{own_stored}
use Rattle.covering_laws.specs.covered_library.Calls.{IsFresh}
use Rattle.covering_laws.proofs.covered_library.Allocation.{IsCovered, allocated_in}
use Rattle.covering_laws.proofs.covered_library.Answers.{answered, null_done, IsNamed, named_held}
use Rattle.covering_laws.proofs.covered_library.Copies.{has_part}
use Rattle.covering_laws.proofs.covered_library.Quiet.{AreQuiet, quiet_cells}
use Rattle.covering_laws.proofs.covered_library.Regrown.{elements_in as grown_in}
use Rattle.covering_laws.proofs.covered_library.Texts.{IsBegun}

some_one : {X : Type 0} → {x y : X} → ◌≡◌ {A = Option X} (Some x) (Some y) → x ≡ y
some_one h = cc

none_some : {X : Type 0} → {x : X} → ◌≡◌ {A = Option X} None (Some x) → ⊥
none_some h = cc

ok_one : {X : Type 0} → {x y : X} → ◌≡◌ {A = Result X Reason} (Ok x) (Ok y) → x ≡ y
ok_one h = cc

err_ok : {X : Type 0} → {r : Reason} → {x : X} → ◌≡◌ {A = Result X Reason} (Err r) (Ok x) → ⊥
err_ok h = cc

-- what is allocated by a call is allocated
heap_allocated : (key : ObjectKey) → is_heap key ≡ true → is_allocated key ≡ true
heap_allocated (CallKey k) h = refl
heap_allocated (StarKey k) h = refl
heap_allocated OutsideKey h = absurd (false≢true h)
heap_allocated (EntityKey k) h = absurd (false≢true h)
heap_allocated (TextKey k) h = absurd (false≢true h)
heap_allocated (VarargsKey k) h = absurd (false≢true h)
heap_allocated (LibraryKey k) h = absurd (false≢true h)
heap_allocated (FunctionKey k) h = absurd (false≢true h)

and_first : (a b : Bool) → (a && b) ≡ true → a ≡ true
and_first true b h = refl
and_first false b h = absurd (false≢true h)

and_second : (a b : Bool) → (a && b) ≡ true → b ≡ true
and_second true b h = h
and_second false b h = absurd (false≢true h)

start_inv : (path : List PathStep) → is_start path ≡ true → (j : ℕ) × (path ≡ Index j ∷ [])
start_inv [] h = absurd (false≢true h)
start_inv (Member k ∷ rest) h = absurd (false≢true h)
start_inv (Index j ∷ []) h = (j, refl)
start_inv (Index j ∷ s ∷ rest) h = absurd (false≢true h)

-- the instance that a realloc ends
pub record IsHeapAt (memory : List Instance) (cell : Cell) (i : ℕ) : Type 0 where
  pub j : ℕ
  pub past : Bool
  pub cell_is : cell ≡ Pointer i (Index j ∷ []) past
  pub allocated : (old : Instance) → slice_get memory i ≡ Some old → is_allocated old.key ≡ true

pub heap_inv : (memory : List Instance) (cell : Cell) (i : ℕ) → heap_at memory cell ≡ Some i → IsHeapAt memory cell i
heap_inv memory Null i h = absurd (none_some h)
heap_inv memory Unset i h = absurd (none_some h)
heap_inv memory (Number k) i h = absurd (none_some h)
heap_inv memory (FunctionCell key) i h = absurd (none_some h)
heap_inv memory (Pointer x path past) i h = by ((is_start path && not past) && is_live_heap (slice_get memory x)) refl h
  where
    live_key : (o : Option Instance) → is_live_heap o ≡ true → (old : Instance) → o ≡ Some old → is_allocated old.key ≡ true
    live_key None f old e = absurd (false≢true f)
    live_key (Some inst) f old e = subst (λ (z : Instance). is_allocated z.key ≡ true) (some_one e) (heap_allocated inst.key (and_second inst.live (is_heap inst.key) f))

    by : (b : Bool) → ((is_start path && not past) && is_live_heap (slice_get memory x)) ≡ b → cond b (Some x) None ≡ Some i → IsHeapAt memory (Pointer x path past) i
    by false is f = absurd (none_some f)
    by true is f =
        let s = start_inv path (and_first (is_start path) (not past) (and_first (is_start path && not past) (is_live_heap (slice_get memory x)) is)) in
        record {
          j = s.0;
          past = past;
          cell_is = ap (λ (k : ℕ). Pointer k path past) (some_one f) ∙ ap (λ (q : List PathStep). Pointer i q past) s.1;
          allocated = λ old e. live_key (slice_get memory x) (and_second (is_start path && not past) (is_live_heap (slice_get memory x)) is) old (ap (slice_get memory) (some_one f) ∙ e);
        }

row_zero : (content : Content) (l : ℕ) → object_row content l 0 ≡ l
row_zero Blob l = refl
row_zero FunctionContent l = omega arith
row_zero (Scalar number) l = omega arith
row_zero (Scalars number) l = omega arith
row_zero (Typed id) l = omega arith
row_zero (Elements id) l = omega arith

array_whole : (table : Table) (a : Instance) (id : TypeId) → is_allocated a.key ≡ true → a.ty ≡ Some id → whole_of table a ≡ Some (ArrayOf (type_of table id.0) (Some (elements_of a.key a.bytes (size_below (extent_in table (type_of table id.0))))))
array_whole table a id h ty =
    ap (typed_whole table a) ty ∙ ap (λ (b : Bool). Some (cond b (ArrayOf (type_of table id.0) (Some (elements_of a.key a.bytes (size_below (extent_in table (type_of table id.0)))))) (type_of table id.0))) h

-- each cell of an object is a number
numbers_quiet : (k : ℕ) (cells : CellList) → AreQuiet (map (λ e. (e.0, Number (pos k))) cells)
numbers_quiet k [] = tt
numbers_quiet k (e ∷ rest) = (tt, numbers_quiet k rest)

all_quiet : (table : Table) (k : ℕ) (ty : Option TypeId) → AreQuiet (all_number table k ty)
all_quiet table k None = tt
all_quiet table k (Some id) = numbers_quiet k (filled table false (type_of table id.0) [])

listed_quiet : (cells : CellList) → AreQuiet cells → AreQuiet (all_listed cells)
listed_quiet [] h = (tt, tt)
listed_quiet (e ∷ rest) h = h

module _ (p : Program) (space : List Location) (system : System) (is : SystemOf p (view_of space) system) (F : Family) (closed : IsClosed system F) (grounds : Grounds p.types space system)
    (number n : ℕ) (node : Node) (site : CallSite) (at : slice_get system.calls number ≡ Some site) (of_call : IsCallSite (w' p space system is F closed grounds) n node site)
    (target : ℕ) (function : Function) (is_target : IsTarget system F site target function) (library : ℕ) (is_library : function.library ≡ Some library)
    (memory : List Instance) (all : MemoryIn (sets p space system is F closed grounds) memory) where
  abbrev g : Sets
  g = sets p space system is F closed grounds

  abbrev w : Setting
  w = w' p space system is F closed grounds

  abbrev made : ObjectKey → Option TypeId → ℕ → CellList → Instance
  made key ty bytes cells = record { key = key; live = true; ty = ty; bytes = bytes; zero = false; cells = cells }

  module _ (a : ℕ) (ta to : Ctype) (listed : Contains function.effects GivesNew) (copies : Contains function.effects (Copies 0 1)) (a_is : IsArgument (trees_in p) node 0 a) (tya : type_at (trees_in p) a ≡ PointerTo ta)
      (tn : type_at (trees_in p) n ≡ PointerTo to) (few : (id : TypeId) → IsFew p.types (type_of p.types id.0))
      (counts : (id : TypeId) (i : ℕ) → kept_at (slice_get (nodes_of p.types (type_of p.types id.0)) i) ≡ true → i < system_nodes system (type_number (type_of p.types id.0))) (key : ObjectKey) (a1 : Cell)
      (h1 : HeldIn (sets p space system is F closed grounds) (w' p space system is F closed grounds) memory a (one_cell a1)) where
    -- the old object's elements are covered in the new one
    kept_cells : (i : ℕ) → IsHeapAt memory a1 i → (old : Instance) → slice_get memory i ≡ Some old → (bytes : ℕ) (ty : Option TypeId) → old.ty ≡ ty → (b : IsBegun (sets p space system is F closed grounds) key ty bytes false [])
        → Contains site.fresh (target, b.begins.first) → is_allocated key ≡ true
        → CellsIn g memory (object_row b.begins.location.content b.begins.first) (whole_part (whole_of p.types (made key ty bytes []))) (kept_elements p.types old bytes ty)
    kept_cells i heap old old_is bytes None ty_is b fresh made_key = tt
    kept_cells i heap old old_is bytes (Some id) ty_is b fresh made_key =
        subst (λ (z : Option Ctype). CellsIn g memory (object_row b.begins.location.content b.begins.first) (whole_part z) (kept_elements p.types old bytes (Some id))) (sym new_whole)
        (grown_in g system grounds memory old (made key (Some id) bytes []) (all i old old_is) new_in (type_of p.types id.0) (elements_of old.key old.bytes (size_below (extent_in p.types (type_of p.types id.0))))
        (elements_of key bytes (size_below (extent_in p.types (type_of p.types id.0)))) old_whole new_whole (few id) (counts id) joined old.zero
        (min (elements_in old.bytes (size_below (extent_in p.types (type_of p.types id.0)))) (elements_in bytes (size_below (extent_in p.types (type_of p.types id.0))))))
      where
        new_in : InstanceIn g memory (made key (Some id) bytes [])
        new_in = record { first = b.begins.first; location = b.begins.location; first_is = b.begins.first_is; location_is = b.begins.location_is; shape = b.begins.shape; untyped = b.begins.untyped; further = b.begins.further; cells = tt }

        old_in : InstanceIn g memory old
        old_in = all i old old_is

        old_whole : whole_of p.types old ≡ Some (ArrayOf (type_of p.types id.0) (Some (elements_of old.key old.bytes (size_below (extent_in p.types (type_of p.types id.0))))))
        old_whole = array_whole p.types old id (heap.allocated old old_is) ty_is

        new_whole : whole_of p.types (made key (Some id) bytes []) ≡ Some (ArrayOf (type_of p.types id.0) (Some (elements_of key bytes (size_below (extent_in p.types (type_of p.types id.0))))))
        new_whole = array_whole p.types (made key (Some id) bytes []) id made_key refl

        points : PointsIn g memory (Some (row_in w a)) i (Index heap.j ∷ [])
        points = subst (CellIn g memory (Some (row_in w a))) heap.cell_is (held_cell p space system is F closed grounds a ta memory a1 tya h1)

        source : Has F (row_in w a) (object_row (all i old old_is).location.content (all i old old_is).first 0)
        source =
            has_part g system grounds memory all (row_in w a) i (Index heap.j ∷ []) old old old_is points refl (all i old old_is)
            (ArrayOf (type_of p.types id.0) (Some (elements_of old.key old.bytes (size_below (extent_in p.types (type_of p.types id.0)))))) old_whole (reached (type_of p.types id.0) 0 false) refl

        joined : (x y : ℕ) → Contains (deep system (object_row b.begins.location.content b.begins.first 0) (object_row (all i old old_is).location.content (all i old old_is).first 0)) (x, y) → IsContained F y x
        joined x y c =
            edge_says p space system is F closed grounds number n node site at of_call target function is_target library is_library (Copies 0 1) y x copies (
              object_row b.begins.location.content b.begins.first 0,
              object_row (all i old old_is).location.content (all i old old_is).first 0,
              subst (λ (l : ℕ). Contains site.fresh (target, l)) (sym (row_zero b.begins.location.content b.begins.first)) fresh,
              (row_in w a, argument_is p space system is F closed grounds number n node site at of_call target function is_target library is_library 0 a ta a_is tya, source),
              c,
            )

    -- realloc
    pub realloc_row_in : (fixed : Option TypeId) (f : IsFresh (sets p space system is F closed grounds) key) → Contains site.fresh (target, f.first)
        → ((i : ℕ) (old : Instance) (bytes : ℕ) → slice_get memory i ≡ Some old → takes p.types fixed old.ty ≡ true
        → (cells : CellList) → (b : IsBegun (sets p space system is F closed grounds) key old.ty bytes false cells) × Contains site.fresh (target, b.begins.first))
        → (word : ℕ) (a2 : Cell) (e : Effected) → realloc_row p.types memory key fixed word a1 a2 ≡ Ok e → IsCovered p space system is F closed grounds number n node site at of_call target function is_target library is_library memory e
    realloc_row_in fixed f fresh begun word a2 e h = by (is_odd word) h
      where
        grown : (i : ℕ) → IsHeapAt memory a1 i → (old : Instance) → slice_get memory i ≡ Some old → takes p.types fixed old.ty ≡ true
            → regrown_in memory key i (count_of a2) old (kept_elements p.types old (count_of a2) old.ty) ≡ Ok e → IsCovered p space system is F closed grounds number n node site at of_call target function is_target library is_library memory e
        grown i heap old old_is taken k =
            let cells : CellList = kept_elements p.types old (count_of a2) old.ty in
            let b = begun i old (count_of a2) old_is taken (kept_elements p.types old (count_of a2) old.ty) in
            let empty : IsBegun (sets p space system is F closed grounds) key old.ty (count_of a2) false [] =
            record {
              begins = record { first = b.0.begins.first; location = b.0.begins.location; first_is = b.0.begins.first_is; location_is = b.0.begins.location_is; shape = b.0.begins.shape; untyped = b.0.begins.untyped; further = b.0.begins.further };
              in_tree = b.0.in_tree;
              spot_is = b.0.spot_is;
            } in
            let r = gives_new_in p space system is F closed grounds number n node site at of_call target function is_target library is_library to listed tn memory (made key old.ty (count_of a2) (kept_elements p.types old (count_of a2) old.ty)) all b.0.begins
            (kept_cells i heap old old_is (count_of a2) old.ty refl empty b.1 f.allocated) b.1 b.0.in_tree b.0.spot_is in
            let after : List Instance = with_new memory key old.ty (count_of a2) false (kept_elements p.types old (count_of a2) old.ty) in
            let l = end_law g system grounds after i r.0.covered in
            answered p space system is F closed grounds number n node site at of_call target function is_target library is_library memory (ended (with_new memory key old.ty (count_of a2) false (kept_elements p.types old (count_of a2) old.ty)) i)
            (record { value = start_value (length memory); stores = pointers_in (length memory) (kept_elements p.types old (count_of a2) old.ty); next = Done }) e
            (record { extends = then_extends g memory after (ended after i) r.0.extends l.extends; covered = l.covered })
            (value_stays g after (ended after i) l.extends (node_row w n) (type_at (trees_in p) n) (start_value (length memory)) r.1)
            (let b = l.extends (length memory) (made key old.ty (count_of a2) (kept_elements p.types old (count_of a2) old.ty)) (get_more memory [] (made key old.ty (count_of a2) (kept_elements p.types old (count_of a2) old.ty))) in
            own_stored g system grounds after (made key old.ty (count_of a2) (kept_elements p.types old (count_of a2) old.ty))
            (r.0.covered (length memory) (made key old.ty (count_of a2) (kept_elements p.types old (count_of a2) old.ty)) (get_more memory [] (made key old.ty (count_of a2) (kept_elements p.types old (count_of a2) old.ty))))
            (ended after i) l.extends (length memory) b.0 b.1 b.2.key) k

        takes_in : (i : ℕ) → IsHeapAt memory a1 i → (old : Instance) → slice_get memory i ≡ Some old → (b : Bool) → takes p.types fixed old.ty ≡ b
            → cond b (regrown_in memory key i (count_of a2) old (kept_elements p.types old (count_of a2) old.ty)) (Err Mismatch) ≡ Ok e → IsCovered p space system is F closed grounds number n node site at of_call target function is_target library is_library memory e
        takes_in i heap old old_is true t k = grown i heap old old_is t k
        takes_in i heap old old_is false t k = absurd (err_ok k)

        old_in : (i : ℕ) → IsHeapAt memory a1 i → (o : Option Instance) → slice_get memory i ≡ o → regrown p.types memory key fixed (count_of a2) i o ≡ Ok e → IsCovered p space system is F closed grounds number n node site at of_call target function is_target library is_library memory e
        old_in i heap None o_is k = absurd (err_ok k)
        old_in i heap (Some old) o_is k = takes_in i heap old o_is (takes p.types fixed old.ty) refl k

        heap_in : (o : Option ℕ) → heap_at memory a1 ≡ o → regrown_at p.types memory key fixed (count_of a2) o ≡ Ok e → IsCovered p space system is F closed grounds number n node site at of_call target function is_target library is_library memory e
        heap_in None o_is k = absurd (err_ok k)
        heap_in (Some i) o_is k = old_in i (heap_inv memory a1 i o_is) (slice_get memory i) refl k

        of : (c : Cell) → a1 ≡ c → realloc_of p.types memory key fixed (count_of a2) c ≡ Ok e → IsCovered p space system is F closed grounds number n node site at of_call target function is_target library is_library memory e
        of Null same k = allocated_in p space system is F closed grounds number n node site at of_call target function is_target library is_library to listed tn key f fresh memory all (count_of a2) false e k
        of Unset same k = heap_in (heap_at memory Unset) (ap (heap_at memory) same) k
        of (Number m) same k = heap_in (heap_at memory (Number m)) (ap (heap_at memory) same) k
        of (Pointer i path past) same k = heap_in (heap_at memory (Pointer i path past)) (ap (heap_at memory) same) k
        of (FunctionCell fkey) same k = heap_in (heap_at memory (FunctionCell fkey)) (ap (heap_at memory) same) k

        by : (b : Bool) → cond b (gives memory null_value) (realloc_of p.types memory key fixed (count_of a2) a1) ≡ Ok e → IsCovered p space system is F closed grounds number n node site at of_call target function is_target library is_library memory e
        by true k = null_done p space system is F closed grounds number n node site at of_call target function is_target library is_library to tn memory all e k
        by false k = of a1 refl k

  -- __ctype_b_loc
  pub ctype_row_in : (to : Ctype) → Contains function.effects (GivesObject 7) → type_at (trees_in p) n ≡ PointerTo to
      → IsNamed p space system is F closed grounds number n node site at of_call target function is_target library is_library memory 7 [] → (word : ℕ) (e : Effected) → ctype_row p.types memory word ≡ Ok e → IsCovered p space system is F closed grounds number n node site at of_call target function is_target library is_library memory e
  ctype_row_in to listed tn is_named word e h = by (object_from 8 0 memory) (object_from 7 0 memory) refl h
    where
      set_in : (i place : ℕ) → object_from 7 0 memory ≡ Some place → (o : Option Instance) → slice_get memory i ≡ o → ctype_set p.types memory (word % 65536) i place o ≡ Ok e → IsCovered p space system is F closed grounds number n node site at of_call target function is_target library is_library memory e
      set_in i place place_is None o_is k = absurd (err_ok k)
      set_in i place place_is (Some inst) o_is k =
          let inside = all i inst o_is in
          let cells : CellList = all_listed (all_number p.types (word % 65536) inst.ty) in
          let l = replaced g memory i inst (record inst { cells = all_listed (all_number p.types (word % 65536) inst.ty) }) o_is (record { key = refl; in_tree = λ q x. x; whole = λ t x. x }) all
          (with_cells g system grounds memory inst inside (all_listed (all_number p.types (word % 65536) inst.ty))
          (quiet_cells g memory (object_row inside.location.content inside.first) (whole_part (whole_of p.types inst)) (all_listed (all_number p.types (word % 65536) inst.ty)) (listed_quiet (all_number p.types (word % 65536) inst.ty) (all_quiet p.types (word % 65536) inst.ty)))) in
          answered p space system is F closed grounds number n node site at of_call target function is_target library is_library memory (set memory i (record inst { cells = all_listed (all_number p.types (word % 65536) inst.ty) }))
          (record { value = one_cell (Pointer place [] false); stores = []; next = Done }) e l
          (value_stays g memory (set memory i (record inst { cells = all_listed (all_number p.types (word % 65536) inst.ty) })) l.extends (node_row w n) (type_at (trees_in p) n) (one_cell (Pointer place [] false))
          (named_held p space system is F closed grounds number n node site at of_call target function is_target library is_library to 7 listed tn memory [] place (is_named.known place place_is))) tt k

      by : (a b : Option ℕ) → object_from 7 0 memory ≡ b → ctype_in p.types memory (word % 65536) a b ≡ Ok e → IsCovered p space system is F closed grounds number n node site at of_call target function is_target library is_library memory e
      by None None b_is k = absurd (err_ok k)
      by None (Some place) b_is k = absurd (err_ok k)
      by (Some i) None b_is k = absurd (err_ok k)
      by (Some i) (Some place) b_is k = set_in i place b_is (slice_get memory i) refl k
