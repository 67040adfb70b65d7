-- A read at a covered place gives a covered value, and a write of a covered value at a covered place leaves the memory covered.
use Rattle.std.proofs.Common.{arith, ◌≡◌, ◌∙◌, inl, inr, ℕ, zero, suc, Bool, true, false, List, [], ◌++◌, Option, Some, None, Result, Ok, Err, IsSome, set, slice_get, map, refl, sym, ap, subst}
use Rattle.std.proofs.lemmas.Bool.{false≢true}
use Rattle.c_types.specs.declared.term.PathStep.{PathStep}
use Rattle.c_types.specs.declared.term.PathStep.TheVariants.{Index, Member}
use Rattle.c_types.specs.Trees.{Ctype, VoidType, BoolType, IntegerType, FloatingType, VaListType, PointerTo, ArrayOf, FunctionFrom, StructureOf, UnionOf}
use Rattle.c_types.specs.Table.{Table, type_of, extent_in}
use Rattle.type_rules.specs.Kinds.{IsScalar}
use Rattle.sol_model.specs.declared.system.System.{System}
use Rattle.sol_model.specs.Families.{Has}
use Rattle.sol_model.specs.Places.{sub_of}
use Rattle.obj_made.specs.declared.object.Content.{Content}
use Rattle.obj_made.specs.declared.object.Content.TheVariants.{Function as FunctionContent, Blob, Scalar, Scalars, Typed, Elements}
use Rattle.obj_space.specs.Spots.{Reached, reached, step_from, part_at}
use Rattle.row_numbers.specs.Kept.{nodes_of, kept_at}
use Rattle.row_numbers.specs.Numbers.{type_number}
use Rattle.ref_cells.specs.declared.cells.Reason.{Reason}
use Rattle.ref_cells.specs.declared.cells.Cell.{Cell}
use Rattle.ref_cells.specs.declared.cells.Cell.TheVariants.{Unset, Number, Null, Pointer, Function}
use Rattle.ref_cells.specs.declared.cells.Value.{Value}
use Rattle.ref_cells.specs.declared.instance.Instance.{Instance}
use Rattle.ref_cells.specs.Cells.{CellList}
use Rattle.ref_cells.specs.Wholes.{whole_of}
use Rattle.ref_cells.specs.Places.{reach, is_alike}
use Rattle.ref_cells.specs.Values.{blank, cell_in, filled}
use Rattle.ref_cells.specs.Puts.{put}
use Rattle.ref_mem.specs.Reads.{opened, converted_cell, one_cell, scalar_value, value_of, opened_value, read_in, read_found, read}
use Rattle.ref_mem.specs.Writes.{width_along, kept_cell, kept, with_value, written_in, write_found, write}
use Rattle.covering_laws.specs.covered_memory.Cells.{EachCell}
use Rattle.covering_laws.specs.covered_memory.Spots.{spot, whole_part}
use Rattle.covering_laws.specs.covered_memory.Covered.{Sets, Lands, PointsIn, CellIn, row_by, pointer_row, CellsIn, ValueIn, object_row, cell_row, HasShape, InstanceIn, MemoryIn, Leaves}
use Rattle.covering_laws.specs.covered_memory.Demands.{Grounds, IsFew, LoadsAt, StoresAt, Loads, Stores}
use Rattle.covering_laws.proofs.covered_memory.Cells.{each_change, each_mapped}
use Rattle.covering_laws.proofs.covered_memory.Filled.{IsOf, fills_all, scalar_part}
use Rattle.covering_laws.proofs.covered_memory.Puts.{part_along, put_each, opened_each}
use Rattle.covering_laws.proofs.covered_memory.Parts.{repeated_some, path_complete, MayPoint, kept_row_node}
use Rattle.covering_laws.proofs.covered_memory.Anchors.{Both, from_whole, from_own, at_part, spot_is}
use Rattle.covering_laws.proofs.covered_memory.Walks.{Reaches, reach_inv, Alike, alike_types}
use Rattle.covering_laws.proofs.covered_memory.Stays.{cell_from_none, cells_in, cells_out, typed_plain, replaced}

some_one : {X : Type 0} → {x y : X} → ◌≡◌ {A = Option X} (Some x) (Some y) → x ≡ y
some_one h = cc

none_some : {X : Type 0} → {x : X} → ◌≡◌ {A = Option X} None (Some x) → ⊥
none_some h = cc

some_none : {X : Type 0} → {x : X} → ◌≡◌ {A = Option X} (Some x) None → ⊥
some_none h = cc

ok_one : {X : Type 0} → {x y : X} → ◌≡◌ {A = Result X Reason} (Ok x) (Ok y) → x ≡ y
ok_one h = cc

err_ok : {X : Type 0} → {r : Reason} → {x : X} → ◌≡◌ {A = Result X Reason} (Err r) (Ok x) → ⊥
err_ok h = cc

-- the type of a whole is complete
scalar_complete : (table : Table) (t : Ctype) → IsScalar t → IsSome (extent_in table t)
scalar_complete table BoolType h = refl
scalar_complete table (IntegerType size rank signed) h = refl
scalar_complete table (PointerTo to) h = refl
scalar_complete table VoidType (inl h) = absurd h
scalar_complete table VoidType (inr h) = absurd h
scalar_complete table FloatingType h = refl
scalar_complete table VaListType h = refl
scalar_complete table (ArrayOf of n) (inl h) = absurd h
scalar_complete table (ArrayOf of n) (inr h) = absurd h
scalar_complete table (FunctionFrom a b c) (inl h) = absurd h
scalar_complete table (FunctionFrom a b c) (inr h) = absurd h
scalar_complete table (StructureOf tag) (inl h) = absurd h
scalar_complete table (StructureOf tag) (inr h) = absurd h
scalar_complete table (UnionOf tag) (inl h) = absurd h
scalar_complete table (UnionOf tag) (inr h) = absurd h

-- the row of a pointer, and the part that it is
pub row_inv : (row : ℕ → ℕ) (o : Option Reached) (at : ℕ) → pointer_row row o ≡ Some at → (r : Reached) × (to : Ctype) × (o ≡ Some r) × (r.ty ≡ to) × (row r.node ≡ at) × MayPoint to
row_inv row None at e = absurd (none_some e)
row_inv row (Some r) at e = by r.ty refl e
  where
    by : (t : Ctype) → r.ty ≡ t → row_by t (row r.node) ≡ Some at → (q : Reached) × (to : Ctype) × (Some r ≡ Some q) × (q.ty ≡ to) × (row q.node ≡ at) × MayPoint to
    by (PointerTo to) is f = (r, PointerTo to, refl, is, some_one f, tt)
    by VoidType is f = absurd (none_some f)
    by BoolType is f = absurd (none_some f)
    by (IntegerType size rank signed) is f = absurd (none_some f)
    by FloatingType is f = absurd (none_some f)
    by VaListType is f = (r, VaListType, refl, is, some_one f, tt)
    by (ArrayOf of n) is f = absurd (none_some f)
    by (FunctionFrom a b c) is f = absurd (none_some f)
    by (StructureOf tag) is f = absurd (none_some f)
    by (UnionOf tag) is f = absurd (none_some f)

pub row_is : (row : ℕ → ℕ) (o : Option Reached) (r : Reached) (to : Ctype) → MayPoint to → o ≡ Some r → r.ty ≡ to → pointer_row row o ≡ Some (row r.node)
row_is row o r to may e is = ap (pointer_row row) e ∙ (ap (λ (t : Ctype). row_by t (row r.node)) is ∙ by to may)
  where
    by : (t : Ctype) → MayPoint t → row_by t (row r.node) ≡ Some (row r.node)
    by (PointerTo s) h = refl
    by VaListType h = refl
    by t h = absurd h

module _ (g : Sets) (system : System) (grounds : Grounds g.table g.space system) where
  pub shape_complete : (content : Content) (t : Ctype) → HasShape g.table content (Some t) → IsSome (extent_in g.table t)
  shape_complete FunctionContent t h = absurd h
  shape_complete Blob t (inl none) = absurd (some_none none)
  shape_complete Blob t (inr (s, is, complete)) = subst (λ (u : Ctype). IsSome (extent_in g.table u)) (sym (some_one is)) complete
  shape_complete (Scalar number) t (s, is, scalar, same) = subst (λ (u : Ctype). IsSome (extent_in g.table u)) (sym (some_one is)) (scalar_complete g.table s scalar)
  shape_complete (Scalars number) t (s, n, is, scalar, same) =
      subst (λ (u : Ctype). IsSome (extent_in g.table u)) (sym (some_one is)) (repeated_some g.table grounds.made n (extent_in g.table s) (scalar_complete g.table s scalar))
  shape_complete (Typed id) t (is, complete) = subst (λ (u : Ctype). IsSome (extent_in g.table u)) (sym (some_one is)) complete
  shape_complete (Elements id) t (inl none, complete) = absurd (some_none none)
  shape_complete (Elements id) t (inr (n, is), complete) =
      subst (λ (u : Ctype). IsSome (extent_in g.table u)) (sym (some_one is)) (repeated_some g.table grounds.made n (extent_in g.table (type_of g.table id.0)) complete)

  -- a covered instance with a part of it whose location is one of these
  pub record Target (memory : List Instance) (IsAt : ℕ → Type 0) (inst : Instance) (path : List PathStep) : Type 0 where
    pub inside : InstanceIn g memory inst
    pub whole : Ctype
    pub whole_is : whole_of g.table inst ≡ Some whole
    pub part : Reached
    pub part_is : part_at g.table (Some (reached whole 0 false)) path ≡ Some part
    pub has : IsAt (object_row inside.location.content inside.first part.node)

  -- the rows of the instance's nodes
  abbrev pub own_row : {memory : List Instance} → {IsAt : ℕ → Type 0} → {inst : Instance} → {path : List PathStep} → Target memory IsAt inst path → ℕ → ℕ
  own_row t node = object_row t.inside.location.content t.inside.first node

  module _ (memory : List Instance) (IsAt : ℕ → Type 0) (inst : Instance) (path : List PathStep) (t : Target memory IsAt inst path) where
    shape_is : HasShape g.table t.inside.location.content (Some t.whole)
    shape_is = subst (HasShape g.table t.inside.location.content) t.whole_is t.inside.shape

    pub part_complete : IsSome (extent_in g.table t.part.ty)
    part_complete = path_complete g.table grounds.made t.whole 0 false path t.part (shape_complete t.inside.location.content t.whole shape_is) t.part_is

    -- the node of a part below is the node so far on from the part
    pub sub_is : (rest : List PathStep) (own whole : Reached) → Both g.table t.part rest own whole → sub_of system (own_row t t.part.node) (type_number t.part.ty) own.node ≡ Some (own_row t whole.node)
    sub_is rest own whole b =
        at_part g.table g.space system grounds inst.key t.inside.first t.inside.location t.inside.first_is t.inside.location_is (Some t.whole) shape_is path t.part t.part_is own.node whole.node b.leads

    -- the same part in a value of the part's type, and in the whole
    below_is : (rest : List PathStep) → part_at g.table (Some (reached t.whole 0 false)) (path ++ rest) ≡ part_at g.table (Some t.part) rest
    below_is rest = part_along g.table (Some (reached t.whole 0 false)) path rest ∙ ap (λ (o : Option Reached). part_at g.table o rest) t.part_is

    lands_read : (row : ℕ → ℕ) → LoadsAt g.table system g.family IsAt row t.part.ty → IsFew g.table t.part.ty → (rest : List PathStep) (found : Option ℕ)
        → Lands g.family (pointer_row (own_row t) (part_at g.table (Some (reached t.whole 0 false)) (path ++ rest))) found
        → Lands g.family (pointer_row row (part_at g.table (Some (reached t.part.ty 0 false)) rest)) found
    lands_read row loads few rest found h =
        let i = row_inv (own_row t) (part_at g.table (Some (reached t.whole 0 false)) (path ++ rest)) h.at h.row_is in
        let f = from_whole g.table t.part rest i.0 (sym (below_is rest) ∙ i.2) in
        let own = f.0 in
        let b = f.1 in
        let pointer : own.ty ≡ i.1 = b.same ∙ i.3 in
        record {
          at = row own.node;
          location = h.location;
          row_is = row_is row (part_at g.table (Some (reached t.part.ty 0 false)) rest) own i.1 i.5 b.own_is pointer;
          found_is = h.found_is;
          has = loads own.node (kept_row_node g.table grounds.made t.part.ty rest own i.1 i.5 few part_complete b.own_is pointer)
              (own_row t t.part.node) (own_row t i.0.node) t.has (sub_is rest own i.0 b) h.location (subst (λ (k : ℕ). Has g.family k h.location) (sym i.4) h.has);
        }

    lands_written : (row : ℕ → ℕ) → StoresAt g.table system g.family IsAt row t.part.ty → IsFew g.table t.part.ty → (rest : List PathStep) (found : Option ℕ)
        → Lands g.family (pointer_row row (part_at g.table (Some (reached t.part.ty 0 false)) rest)) found
        → Lands g.family (pointer_row (own_row t) (part_at g.table (Some (reached t.whole 0 false)) (path ++ rest))) found
    lands_written row stores few rest found h =
        let i = row_inv row (part_at g.table (Some (reached t.part.ty 0 false)) rest) h.at h.row_is in
        let f = from_own g.table t.part rest i.0 i.2 in
        let whole = f.0 in
        let b = f.1 in
        record {
          at = own_row t whole.node;
          location = h.location;
          row_is = row_is (own_row t) (part_at g.table (Some (reached t.whole 0 false)) (path ++ rest)) whole i.1 i.5 (below_is rest ∙ b.whole_is) (sym b.same ∙ i.3);
          found_is = h.found_is;
          has = stores i.0.node (kept_row_node g.table grounds.made t.part.ty rest i.0 i.1 i.5 few part_complete i.2 i.3)
              (own_row t t.part.node) (own_row t whole.node) t.has (sub_is rest i.0 whole b) h.location (subst (λ (k : ℕ). Has g.family k h.location) (sym i.4) h.has);
        }

    cell_read : (row : ℕ → ℕ) → LoadsAt g.table system g.family IsAt row t.part.ty → IsFew g.table t.part.ty → (rest : List PathStep) (c : Cell)
        → CellIn g memory (pointer_row (own_row t) (part_at g.table (Some (reached t.whole 0 false)) (path ++ rest))) c
        → CellIn g memory (pointer_row row (part_at g.table (Some (reached t.part.ty 0 false)) rest)) c
    cell_read row loads few rest (Pointer i q past) h = record {
      inst = h.inst;
      inst_is = h.inst_is;
      in_tree = h.in_tree;
      lands = lands_read row loads few rest (spot g.table g.space h.inst.key q) h.lands;
    }
    cell_read row loads few rest (Function key) h = lands_read row loads few rest (spot g.table g.space key []) h
    cell_read row loads few rest Unset h = tt
    cell_read row loads few rest (Number n) h = tt
    cell_read row loads few rest Null h = tt

    pub cell_written : (row : ℕ → ℕ) → StoresAt g.table system g.family IsAt row t.part.ty → IsFew g.table t.part.ty → (rest : List PathStep) (c : Cell)
        → CellIn g memory (pointer_row row (part_at g.table (Some (reached t.part.ty 0 false)) rest)) c
        → CellIn g memory (pointer_row (own_row t) (part_at g.table (Some (reached t.whole 0 false)) (path ++ rest))) c
    cell_written row stores few rest (Pointer i q past) h = record {
      inst = h.inst;
      inst_is = h.inst_is;
      in_tree = h.in_tree;
      lands = lands_written row stores few rest (spot g.table g.space h.inst.key q) h.lands;
    }
    cell_written row stores few rest (Function key) h = lands_written row stores few rest (spot g.table g.space key []) h
    cell_written row stores few rest Unset h = tt
    cell_written row stores few rest (Number n) h = tt
    cell_written row stores few rest Null h = tt

    own_cells : EachCell (λ p c. CellIn g memory (pointer_row (own_row t) (part_at g.table (Some (reached t.whole 0 false)) p)) c) inst.cells
    own_cells =
        subst (λ (o : Option Ctype). EachCell (λ p c. CellIn g memory (pointer_row (own_row t) (part_at g.table (whole_part o) p)) c) inst.cells) t.whole_is
        (cells_out g memory inst t.inside.location.content t.inside.first (typed_plain g memory inst t.inside t.whole t.whole_is) inst.cells t.inside.cells)

    -- what is listed of the part is covered at the rows that load from it
    pub opened_read : (row : ℕ → ℕ) → LoadsAt g.table system g.family IsAt row t.part.ty → IsFew g.table t.part.ty → (o : Option Ctype) (list : CellList) → opened g.table o path inst.cells ≡ Some list
        → CellsIn g memory row (Some (reached t.part.ty 0 false)) list
    opened_read row loads few o list e =
        each_change (λ p c. CellIn g memory (pointer_row (own_row t) (part_at g.table (Some (reached t.whole 0 false)) (path ++ p))) c)
        (λ p c. CellIn g memory (pointer_row row (part_at g.table (Some (reached t.part.ty 0 false)) p)) c) list
        (cell_read row loads few)
        (opened_each g.table (λ p c. CellIn g memory (pointer_row (own_row t) (part_at g.table (Some (reached t.whole 0 false)) p)) c) o path inst.cells list own_cells e)

    -- the instance with cells put under the path
    pub put_written : (row : ℕ → ℕ) → StoresAt g.table system g.family IsAt row t.part.ty → IsFew g.table t.part.ty → (o : Option Ctype) (list : CellList) → CellsIn g memory row (Some (reached t.part.ty 0 false)) list
        → CellsIn g memory (own_row t) (whole_part (whole_of g.table inst)) (put g.table inst.zero o path list inst.cells)
    put_written row stores few o list h =
        subst (λ (w : Option Ctype). CellsIn g memory (own_row t) (whole_part w) (put g.table inst.zero o path list inst.cells)) (sym t.whole_is)
        (put_each g.table (λ p c. CellIn g memory (pointer_row (own_row t) (part_at g.table (Some (reached t.whole 0 false)) p)) c) inst.zero o path list inst.cells (λ p. tt)
        (each_change (λ p c. CellIn g memory (pointer_row row (part_at g.table (Some (reached t.part.ty 0 false)) p)) c)
        (λ p c. CellIn g memory (pointer_row (own_row t) (part_at g.table (Some (reached t.whole 0 false)) (path ++ p))) c) list (cell_written row stores few) h)
        own_cells)

  -- what a read or a write reaches at a covered place
  pub record Found (memory : List Instance) (through : ℕ) (place : Cell) (t found : Ctype) : Type 0 where
    pub reaches : Reaches g.table memory place t found
    pub target : Target memory (Has g.family through) reaches.inst reaches.path
    pub ty : target.part.ty ≡ found
    pub alike : Alike g.table found t

  pub found_lands : (memory : List Instance) (through i : ℕ) (path : List PathStep) (inst : Instance) → slice_get memory i ≡ Some inst → PointsIn g memory (Some through) i path
      → (inside : InstanceIn g memory inst) (whole : Ctype) → whole_of g.table inst ≡ Some whole → (part : Reached) → part_at g.table (Some (reached whole 0 false)) path ≡ Some part
      → Has g.family through (object_row inside.location.content inside.first part.node)
  found_lands memory through i path inst at p inside whole whole_is part part_is =
      let same : p.inst ≡ inst = some_one (sym p.inst_is ∙ at) in
      let there = spot_is g.table g.space system grounds inst.key inside.first inside.location inside.first_is inside.location_is (Some whole)
      (subst (HasShape g.table inside.location.content) whole_is inside.shape) path part part_is in
      let here : p.lands.location ≡ object_row inside.location.content inside.first part.node =
      some_one (sym p.lands.found_is ∙ (ap (λ (x : Instance). spot g.table g.space x.key path) same ∙ there)) in
      subst (λ (k : ℕ). Has g.family through k) here (subst (λ (k : ℕ). Has g.family k p.lands.location) (sym (some_one p.lands.row_is)) p.lands.has)

  pub found_at : (memory : List Instance) (through : ℕ) (place : Cell) (t found : Ctype) → MemoryIn g memory → CellIn g memory (Some through) place → reach g.table memory place t ≡ Ok found
      → Found memory through place t found
  found_at memory through place t found all h e =
      let r = reach_inv g.table memory place t found e in
      let inside = all r.i r.inst r.inst_is in
      let points : PointsIn g memory (Some through) r.i r.path = subst (CellIn g memory (Some through)) r.place_is h in
      record {
        reaches = r;
        target = record {
          inside = inside;
          whole = r.whole;
          whole_is = r.whole_is;
          part = r.part;
          part_is = r.part_is;
          has = found_lands memory through r.i r.path r.inst r.inst_is points inside r.whole r.whole_is r.part r.part_is;
        };
        ty = r.ty;
        alike = alike_types g.table found t r.alike;
      }

  -- loads and stores at a type are those at a type like it
  loads_like : (IsAt : ℕ → Type 0) (row : ℕ → ℕ) (found t : Ctype) → Alike g.table found t → LoadsAt g.table system g.family IsAt row t → LoadsAt g.table system g.family IsAt row found
  loads_like IsAt row found t a loads i kept l m has sub =
      loads i (sym (a.kept i) ∙ kept) l m has (ap (λ (n : ℕ). sub_of system l n i) (sym a.number) ∙ sub)

  stores_like : (IsAt : ℕ → Type 0) (row : ℕ → ℕ) (found t : Ctype) → Alike g.table found t → StoresAt g.table system g.family IsAt row t → StoresAt g.table system g.family IsAt row found
  stores_like IsAt row found t a stores i kept l m has sub =
      stores i (sym (a.kept i) ∙ kept) l m has (ap (λ (n : ℕ). sub_of system l n i) (sym a.number) ∙ sub)

  -- cells of one type as those of a type like it
  cells_like : (memory : List Instance) (row : ℕ → ℕ) (found t : Ctype) (list : CellList) → Alike g.table found t
      → CellsIn g memory row (Some (reached found 0 false)) list → CellsIn g memory row (Some (reached t 0 false)) list
  cells_like memory row found t list a h =
      each_change (λ p c. CellIn g memory (pointer_row row (part_at g.table (Some (reached found 0 false)) p)) c) (λ p c. CellIn g memory (pointer_row row (part_at g.table (Some (reached t 0 false)) p)) c) list
      (λ p c x. subst (λ (o : Option ℕ). CellIn g memory o c) (a.parts row p) x) h

  cells_back : (memory : List Instance) (row : ℕ → ℕ) (found t : Ctype) (list : CellList) → Alike g.table found t
      → CellsIn g memory row (Some (reached t 0 false)) list → CellsIn g memory row (Some (reached found 0 false)) list
  cells_back memory row found t list a h =
      each_change (λ p c. CellIn g memory (pointer_row row (part_at g.table (Some (reached t 0 false)) p)) c) (λ p c. CellIn g memory (pointer_row row (part_at g.table (Some (reached found 0 false)) p)) c) list
      (λ p c x. subst (λ (o : Option ℕ). CellIn g memory o c) (sym (a.parts row p)) x) h

  -- what isn't listed points to nothing
  blank_in : (memory : List Instance) (row : Option ℕ) (marked : Bool) (t : Ctype) → CellIn g memory row (blank marked t)
  blank_in memory row false t = tt
  blank_in memory row true (PointerTo to) = tt
  blank_in memory row true VaListType = tt
  blank_in memory row true VoidType = tt
  blank_in memory row true BoolType = tt
  blank_in memory row true (IntegerType size rank signed) = tt
  blank_in memory row true FloatingType = tt
  blank_in memory row true (ArrayOf of n) = tt
  blank_in memory row true (FunctionFrom a b c) = tt
  blank_in memory row true (StructureOf tag) = tt
  blank_in memory row true (UnionOf tag) = tt

  -- all cells of a part of which the listed ones are covered
  pub filled_in : (memory : List Instance) (row : ℕ → ℕ) (marked : Bool) (t : Ctype) (o : Option Reached) (list : CellList) → IsOf t o → CellsIn g memory row o list → CellsIn g memory row o (filled g.table marked t list)
  filled_in memory row marked t o list is h =
      fills_all g.table (λ o c. CellIn g memory (pointer_row row o) c) (λ o c. cell_from_none g memory (pointer_row row o) c) (λ o. tt) marked
      (λ o t. blank_in memory (pointer_row row o) marked t) t o list is h

  one_in : (memory : List Instance) (row : ℕ → ℕ) (marked : Bool) (t : Ctype) (list : CellList) → ((step : PathStep) → step_from g.table (Some (reached t 0 false)) step ≡ None)
      → CellsIn g memory row (Some (reached t 0 false)) list → CellIn g memory (pointer_row row (Some (reached t 0 false))) (cell_in marked t list)
  one_in memory row marked t list none h =
      scalar_part g.table (λ o c. CellIn g memory (pointer_row row o) c) (λ o c. cell_from_none g memory (pointer_row row o) c) (λ o. tt) marked
      (λ o t. blank_in memory (pointer_row row o) marked t) t (Some (reached t 0 false)) none list h

  converted_in : (memory : List Instance) (row : Option ℕ) (t : Ctype) (c : Cell) → CellIn g memory row c → CellIn g memory row (converted_cell t c)
  converted_in memory row t (Number n) h = tt
  converted_in memory row t Unset h = h
  converted_in memory row t Null h = h
  converted_in memory row t (Pointer i path past) h = h
  converted_in memory row t (Function key) h = h

  scalar_in : (memory : List Instance) (row : ℕ → ℕ) (found t : Ctype) (c : Cell) (v : Value) → scalar_value t c ≡ Ok v → CellIn g memory (pointer_row row (Some (reached found 0 false))) c
      → CellsIn g memory row (Some (reached found 0 false)) v.cells
  scalar_in memory row found t Unset v e h = absurd (err_ok e)
  scalar_in memory row found t (Number n) v e h =
      subst (λ (w : Value). CellsIn g memory row (Some (reached found 0 false)) w.cells) (ok_one e) (converted_in memory (pointer_row row (Some (reached found 0 false))) t (Number n) h, tt)
  scalar_in memory row found t Null v e h = subst (λ (w : Value). CellsIn g memory row (Some (reached found 0 false)) w.cells) (ok_one e) (h, tt)
  scalar_in memory row found t (Pointer i path past) v e h = subst (λ (w : Value). CellsIn g memory row (Some (reached found 0 false)) w.cells) (ok_one e) (h, tt)
  scalar_in memory row found t (Function key) v e h = subst (λ (w : Value). CellsIn g memory row (Some (reached found 0 false)) w.cells) (ok_one e) (h, tt)

  -- the value of what is found, of which these cells are listed
  value_in : (memory : List Instance) (row : ℕ → ℕ) (marked : Bool) (found t : Ctype) (list : CellList) (v : Value) → is_alike found t ≡ true → value_of g.table marked found t list ≡ Ok v
      → CellsIn g memory row (Some (reached found 0 false)) list → CellsIn g memory row (Some (reached found 0 false)) v.cells
  value_in memory row marked (StructureOf tag) t list v a e h =
      subst (λ (w : Value). CellsIn g memory row (Some (reached (StructureOf tag) 0 false)) w.cells) (ok_one e) (filled_in memory row marked (StructureOf tag) (Some (reached (StructureOf tag) 0 false)) list refl h)
  value_in memory row marked (UnionOf tag) t list v a e h =
      subst (λ (w : Value). CellsIn g memory row (Some (reached (UnionOf tag) 0 false)) w.cells) (ok_one e) (filled_in memory row marked (UnionOf tag) (Some (reached (UnionOf tag) 0 false)) list refl h)
  value_in memory row marked BoolType t list v a e h =
      scalar_in memory row BoolType t (cell_in marked BoolType list) v e (one_in memory row marked BoolType list (λ step. bool_none step) h)
    where
      bool_none : (step : PathStep) → step_from g.table (Some (reached BoolType 0 false)) step ≡ None
      bool_none (Index i) = refl
      bool_none (Member k) = refl
  value_in memory row marked (IntegerType size rank signed) t list v a e h =
      scalar_in memory row (IntegerType size rank signed) t (cell_in marked (IntegerType size rank signed) list) v e (one_in memory row marked (IntegerType size rank signed) list (λ step. integer_none step) h)
    where
      integer_none : (step : PathStep) → step_from g.table (Some (reached (IntegerType size rank signed) 0 false)) step ≡ None
      integer_none (Index i) = refl
      integer_none (Member k) = refl
  value_in memory row marked (PointerTo to) t list v a e h =
      scalar_in memory row (PointerTo to) t (cell_in marked (PointerTo to) list) v e (one_in memory row marked (PointerTo to) list (λ step. pointer_none step) h)
    where
      pointer_none : (step : PathStep) → step_from g.table (Some (reached (PointerTo to) 0 false)) step ≡ None
      pointer_none (Index i) = refl
      pointer_none (Member k) = refl
  value_in memory row marked VoidType t list v a e h = absurd (false≢true a)
  value_in memory row marked FloatingType t list v a e h = absurd (false≢true a)
  value_in memory row marked VaListType t list v a e h =
      scalar_in memory row VaListType t (cell_in marked VaListType list) v e (one_in memory row marked VaListType list (λ step. list_none step) h)
    where
      list_none : (step : PathStep) → step_from g.table (Some (reached VaListType 0 false)) step ≡ None
      list_none (Index i) = refl
      list_none (Member k) = refl
  value_in memory row marked (ArrayOf of n) t list v a e h = absurd (false≢true a)
  value_in memory row marked (FunctionFrom p q s) t list v a e h = absurd (false≢true a)

  pub record IsRead (memory : List Instance) (place : Cell) (t : Ctype) (v : Value) : Type 0 where
    pub found : Ctype
    pub found_is : reach g.table memory place t ≡ Ok found
    pub value_is : read_found g.table memory place t (Ok found) ≡ Ok v

  pub read_inv : (memory : List Instance) (place : Cell) (t : Ctype) (v : Value) → read g.table memory place t ≡ Ok v → IsRead memory place t v
  unfolding read
  read_inv memory place t v e = by (reach g.table memory place t) refl e
    where
      by : (r : Result Ctype Reason) → reach g.table memory place t ≡ r → read_found g.table memory place t r ≡ Ok v → IsRead memory place t v
      by (Err reason) is f = absurd (err_ok f)
      by (Ok found) is f = record { found = found; found_is = is; value_is = f }

  -- A read at a place whose location is one of these gives a value that is covered at rows that have what each of them has.
  pub read_at_law : (memory : List Instance) (IsAt : ℕ → Type 0) (place : Cell) (t found : Ctype) (row : ℕ → ℕ) (v : Value) → (r : Reaches g.table memory place t found) (target : Target memory IsAt r.inst r.path)
      → target.part.ty ≡ found → IsFew g.table t → LoadsAt g.table system g.family IsAt row t → read_found g.table memory place t (Ok found) ≡ Ok v → ValueIn g memory row t v
  read_at_law memory IsAt place t found row v r target ty few loads e =
      let at : read_found g.table memory (Pointer r.i r.path r.past) t (Ok found) ≡ Ok v = ap (λ (c : Cell). read_found g.table memory c t (Ok found)) (sym r.place_is) ∙ e in
      let in_inst : opened_value g.table r.inst.zero found t (opened g.table (whole_of g.table r.inst) r.path r.inst.cells) ≡ Ok v =
      ap (λ (o : Option Instance). read_in g.table o r.path found t) (sym r.inst_is) ∙ at in
      by (opened g.table (whole_of g.table r.inst) r.path r.inst.cells) refl in_inst
    where
      by : (o : Option CellList) → opened g.table (whole_of g.table r.inst) r.path r.inst.cells ≡ o → opened_value g.table r.inst.zero found t o ≡ Ok v → ValueIn g memory row t v
      by None is k = absurd (err_ok k)
      by (Some list) is k =
          let alike = alike_types g.table found t r.alike in
          let own = opened_read memory IsAt r.inst r.path target row
          (subst (λ (s : Ctype). LoadsAt g.table system g.family IsAt row s) (sym ty) (loads_like IsAt row found t alike loads))
          (subst (λ (s : Ctype). IsFew g.table s) (sym ty) (alike.few few)) (whole_of g.table r.inst) list is in
          cells_like memory row found t v.cells alike
          (value_in memory row r.inst.zero found t list v r.alike k (subst (λ (s : Ctype). CellsIn g memory row (Some (reached s 0 false)) list) ty own))

  -- A read at a covered place of a covered memory gives a value that is covered where the system has its loads.
  pub read_law : (memory : List Instance) (through : ℕ) (place : Cell) (t : Ctype) (row : ℕ → ℕ) (v : Value) → MemoryIn g memory → CellIn g memory (Some through) place
      → IsFew g.table t → Loads g.table system g.family through row t → read g.table memory place t ≡ Ok v → ValueIn g memory row t v
  read_law memory through place t row v all h few loads e =
      let inv = read_inv memory place t v e in
      let f = found_at memory through place t inv.found all h inv.found_is in
      read_at_law memory (Has g.family through) place t inv.found row v f.reaches f.target f.ty few loads inv.value_is

  -- numbers are converted when they are written
  pub kept_in : (memory : List Instance) (row : ℕ → ℕ) (o : Option Reached) (found : Ctype) (width : Option ℕ) (list : CellList) → CellsIn g memory row o list → CellsIn g memory row o (kept found width list)
  kept_in memory row o found width list h = by found
    where
      cell : (s : Ctype) (p : List PathStep) (c : Cell) → CellIn g memory (pointer_row row (part_at g.table o p)) c → CellIn g memory (pointer_row row (part_at g.table o p)) (kept_cell s width c)
      cell s p (Number n) x = tt
      cell s p Unset x = x
      cell s p Null x = x
      cell s p (Pointer i path past) x = x
      cell s p (Function key) x = x

      mapped : (s : Ctype) → CellsIn g memory row o (map (λ e. (e.0, kept_cell s width e.1)) list)
      mapped s = each_mapped (λ p c. CellIn g memory (pointer_row row (part_at g.table o p)) c) (kept_cell s width) list (cell s) h

      by : (s : Ctype) → CellsIn g memory row o (kept s width list)
      by (StructureOf tag) = h
      by (UnionOf tag) = h
      by VoidType = mapped VoidType
      by BoolType = mapped BoolType
      by (IntegerType size rank signed) = mapped (IntegerType size rank signed)
      by FloatingType = mapped FloatingType
      by VaListType = mapped VaListType
      by (PointerTo to) = mapped (PointerTo to)
      by (ArrayOf of n) = mapped (ArrayOf of n)
      by (FunctionFrom a b c) = mapped (FunctionFrom a b c)

  -- an instance of which only the cells change
  pub with_own : (memory : List Instance) (inst : Instance) (inside : InstanceIn g memory inst) (list : CellList)
      → EachCell (λ p c. CellIn g memory (cell_row g.table inst inside.location.content inside.first p) c) list → InstanceIn g memory (record inst { cells = list })
  with_own memory inst inside list h = record {
    first = inside.first;
    location = inside.location;
    first_is = inside.first_is;
    location_is = inside.location_is;
    shape = inside.shape;
    untyped = inside.untyped;
    further = inside.further;
    cells = h;
  }

  pub with_cells : (memory : List Instance) (inst : Instance) (inside : InstanceIn g memory inst) (list : CellList)
      → CellsIn g memory (object_row inside.location.content inside.first) (whole_part (whole_of g.table inst)) list → InstanceIn g memory (record inst { cells = list })
  with_cells memory inst inside list h =
      with_own memory inst inside list (cells_in g memory inst inside.location.content inside.first (λ f. (inside.further f).0) list h)

  pub record IsWritten (memory : List Instance) (place : Cell) (t : Ctype) (v : Value) (after : List Instance) : Type 0 where
    pub found : Ctype
    pub found_is : reach g.table memory place t ≡ Ok found
    pub after_is : write_found g.table memory place v.cells (Ok found) ≡ Ok after

  pub write_inv : (memory : List Instance) (place : Cell) (t : Ctype) (v : Value) (after : List Instance) → write g.table memory place t v ≡ Ok after → IsWritten memory place t v after
  unfolding write
  write_inv memory place t v after e = by (reach g.table memory place t) refl e
    where
      by : (r : Result Ctype Reason) → reach g.table memory place t ≡ r → write_found g.table memory place v.cells r ≡ Ok after → IsWritten memory place t v after
      by (Err reason) is f = absurd (err_ok f)
      by (Ok found) is f = record { found = found; found_is = is; after_is = f }

  -- A write of a covered value at a place whose location is one of these leaves a covered memory covered where each of them has what the value's rows have.
  pub write_at_law : (memory : List Instance) (IsAt : ℕ → Type 0) (place : Cell) (t found : Ctype) (row : ℕ → ℕ) (v : Value) (after : List Instance) → MemoryIn g memory
      → (r : Reaches g.table memory place t found) (target : Target memory IsAt r.inst r.path) → target.part.ty ≡ found → IsFew g.table t → StoresAt g.table system g.family IsAt row t
      → ValueIn g memory row t v → write_found g.table memory place v.cells (Ok found) ≡ Ok after → Leaves g memory after
  write_at_law memory IsAt place t found row v after all r target ty few stores value e =
      let alike = alike_types g.table found t r.alike in
      let at : write_found g.table memory (Pointer r.i r.path r.past) v.cells (Ok found) ≡ Ok after = ap (λ (c : Cell). write_found g.table memory c v.cells (Ok found)) (sym r.place_is) ∙ e in
      let is_set : Ok (set memory r.i (with_value g.table r.inst r.path found v.cells)) ≡ Ok after =
      ap (λ (o : Option Instance). written_in g.table memory r.i o r.path found v.cells) (sym r.inst_is) ∙ at in
      let list = kept found (width_along g.table (whole_of g.table r.inst) r.path) v.cells in
      let own : CellsIn g memory row (Some (reached target.part.ty 0 false)) list =
      subst (λ (s : Ctype). CellsIn g memory row (Some (reached s 0 false)) list) (sym ty)
      (kept_in memory row (Some (reached found 0 false)) found (width_along g.table (whole_of g.table r.inst) r.path) v.cells (cells_back memory row found t v.cells alike value)) in
      let cells = put_written memory IsAt r.inst r.path target row
      (subst (λ (s : Ctype). StoresAt g.table system g.family IsAt row s) (sym ty) (stores_like IsAt row found t alike stores))
      (subst (λ (s : Ctype). IsFew g.table s) (sym ty) (alike.few few)) (whole_of g.table r.inst) list own in
      let new = with_value g.table r.inst r.path found v.cells in
      subst (λ (m : List Instance). Leaves g memory m) (ok_one is_set)
      (replaced g memory r.i r.inst new r.inst_is (record { key = refl; in_tree = λ p x. x; whole = λ s x. x }) all
      (with_cells memory r.inst target.inside (put g.table r.inst.zero (whole_of g.table r.inst) r.path list r.inst.cells) cells))

  -- A write of a covered value at a covered place leaves a covered memory covered where the system has the stores.
  pub write_law : (memory : List Instance) (through : ℕ) (place : Cell) (t : Ctype) (row : ℕ → ℕ) (v : Value) (after : List Instance) → MemoryIn g memory → CellIn g memory (Some through) place
      → IsFew g.table t → Stores g.table system g.family through row t → ValueIn g memory row t v → write g.table memory place t v ≡ Ok after → Leaves g memory after
  write_law memory through place t row v after all h few stores value e =
      let inv = write_inv memory place t v after e in
      let f = found_at memory through place t inv.found all h inv.found_is in
      write_at_law memory (Has g.family through) place t inv.found row v after all f.reaches f.target f.ty few stores value inv.after_is

  -- a pointer to a part of a covered memory, whose location is its own
  pub target_of : (memory : List Instance) (inst : Instance) (path : List PathStep) (inside : InstanceIn g memory inst) (whole : Ctype) → whole_of g.table inst ≡ Some whole → (part : Reached)
      → part_at g.table (Some (reached whole 0 false)) path ≡ Some part → (IsAt : ℕ → Type 0) → IsAt (object_row inside.location.content inside.first part.node) → Target memory IsAt inst path
  target_of memory inst path inside whole whole_is part part_is IsAt at = record { inside = inside; whole = whole; whole_is = whole_is; part = part; part_is = part_is; has = at }

  -- the location of a pointer's own node is that of the pointer
  own_sub : (memory : List Instance) (inst : Instance) (path : List PathStep) (IsAt : ℕ → Type 0) (t : Target memory IsAt inst path)
      → sub_of system (own_row t t.part.node) (type_number t.part.ty) 0 ≡ Some (own_row t t.part.node)
  own_sub memory inst path IsAt t =
      let f = from_own g.table t.part [] (reached t.part.ty 0 false) refl in
      let same : t.part ≡ f.0 = some_one f.1.whole_is in
      sub_is memory IsAt inst path t [] (reached t.part.ty 0 false) f.0 f.1 ∙ ap (λ (q : Reached). Some (own_row t q.node)) (sym same)

  -- what may point has one node, and that has a row
  pub point_few : (t : Ctype) → MayPoint t → IsFew g.table t
  point_few (PointerTo to) may = omega arith
  point_few VaListType may = omega arith
  point_few t may = absurd may

  pub zero_kept : (t : Ctype) → MayPoint t → (i : ℕ) → kept_at (slice_get (nodes_of g.table t) i) ≡ true → i ≡ 0
  zero_kept (PointerTo to) may zero h = refl
  zero_kept (PointerTo to) may (suc i) h = absurd (false≢true h)
  zero_kept VaListType may zero h = refl
  zero_kept VaListType may (suc i) h = absurd (false≢true h)
  zero_kept t may i h = absurd may

  pub may_row : (t : Ctype) → MayPoint t → (k : ℕ) → row_by t k ≡ Some k
  may_row (PointerTo to) may k = refl
  may_row VaListType may k = refl
  may_row t may k = absurd may

  -- A pointer or list that is read, moved and written back leaves a covered memory covered.
  pub update_law : (memory : List Instance) (place : Cell) (t : Ctype) → MayPoint t → (old new : Cell) (after : List Instance) (through : ℕ) → MemoryIn g memory → CellIn g memory (Some through) place
      → ((row : Option ℕ) → CellIn g memory row old → CellIn g memory row new)
      → read g.table memory place t ≡ Ok (one_cell old) → write g.table memory place t (one_cell new) ≡ Ok after → Leaves g memory after
  unfolding target_of found_at
  update_law memory place t may old new after through all h moves e k =
      let inv = read_inv memory place t (one_cell old) e in
      let put_inv = write_inv memory place t (one_cell new) after k in
      let same : put_inv.found ≡ inv.found = ok_one (sym put_inv.found_is ∙ inv.found_is) in
      let f = found_at memory through place t inv.found all h inv.found_is in
      let r = f.reaches in
      let at = own_row f.target f.target.part.node in
      let target = target_of memory r.inst r.path f.target.inside f.target.whole f.target.whole_is f.target.part f.target.part_is (λ l. l ≡ at) refl in
      let sub : (m : ℕ) → sub_of system at (type_number t) 0 ≡ Some m → at ≡ m =
      λ m x. some_one (sym (own_sub memory r.inst r.path (λ l. l ≡ at) target) ∙ (ap (λ (n : ℕ). sub_of system at n 0) (ap type_number f.ty ∙ f.alike.number) ∙ x)) in
      let here : (i l m : ℕ) → kept_at (slice_get (nodes_of g.table t) i) ≡ true → l ≡ at → sub_of system l (type_number t) i ≡ Some m → at ≡ m =
      λ i l m kept is x. sub m (ap (λ (j : ℕ). sub_of system at (type_number t) j) (sym (zero_kept t may i kept)) ∙ (ap (λ (j : ℕ). sub_of system j (type_number t) i) (sym is) ∙ x)) in
      let few : IsFew g.table t = point_few t may in
      let loads : LoadsAt g.table system g.family (λ l. l ≡ at) (λ i. at) t =
      λ i kept l m is x a b. subst (λ (j : ℕ). Has g.family j a) (sym (here i l m kept is x)) b in
      let stores : StoresAt g.table system g.family (λ l. l ≡ at) (λ i. at) t =
      λ i kept l m is x a b. subst (λ (j : ℕ). Has g.family j a) (here i l m kept is x) b in
      let own : ValueIn g memory (λ i. at) t (one_cell old) = read_at_law memory (λ l. l ≡ at) place t inv.found (λ i. at) (one_cell old) r target f.ty few loads inv.value_is in
      let moved = moves (Some at) (subst (λ (o : Option ℕ). CellIn g memory o old) (may_row t may at) own.0) in
      write_at_law memory (λ l. l ≡ at) place t inv.found (λ i. at) (one_cell new) after all r target f.ty few stores (subst (λ (o : Option ℕ). CellIn g memory o new) (sym (may_row t may at)) moved, tt)
      (subst (λ (s : Ctype). write_found g.table memory place ((one_cell new).cells) (Ok s) ≡ Ok after) same put_inv.after_is)
