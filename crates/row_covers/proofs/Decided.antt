-- What the code decides is what it means that sets cover an instance.
use Rattle.std.proofs.Common.{arith, ◌≡◌, ◌∙◌, ◌⊎◌, inl, inr, ℕ, zero, suc, ◌<◌, ◌^◌, ◌↔◌, Bool, true, false, List, [], ◌∷◌, Option, Some, None, IsSome, IsTrue, All, cond, nat_lt, ◌+◌, ◌≤◌, take, eqb-true, ltb-true, ltb-false, eq-eqb, get_or, length, slice_get, refl, sym, ap, subst}
use Rattle.std.proofs.lemmas.Bool.{cases_lt, false≢true}
use Rattle.std.proofs.lemmas.List.{take_all}
use Rattle.c_types.specs.declared.term.Class.{Class}
use Rattle.c_types.specs.Parts.{class_of_type, within_32}
use Rattle.row_numbers.specs.Kept.{nodes_in, nodes_of, kept_count}
use Rattle.obj_space.specs.Parts.{size_number}
use Rattle.row_covers.specs.declared.cells.NodeRows.{NodeRows}
use Rattle.row_covers.specs.declared.cells.NodeRows.TheVariants.{Object as ObjectRows, Blob as BlobRow, Value as ValueRows}
use Rattle.row_covers.specs.declared.parts.End.{End}
use Rattle.row_covers.specs.Parts.{near, is_pointing, IsEnd}
use Rattle.c_types.specs.declared.key.ObjectKey.{ObjectKey}
use Rattle.c_types.specs.declared.key.ObjectKey.TheVariants.{Varargs as VarargsKey}
use Rattle.c_types.specs.declared.term.PathStep.{PathStep}
use Rattle.c_types.specs.declared.term.TypeId.{TypeId}
use Rattle.c_types.specs.Trees.{Ctype, VoidType, BoolType, IntegerType, FloatingType, VaListType, PointerTo, ArrayOf, FunctionFrom, StructureOf, UnionOf}
use Rattle.c_types.specs.Layout.{Extent}
use Rattle.c_types.specs.Table.{Table, type_of, extent_in}
use Rattle.sol_model.specs.Families.{Family, Has}
use Rattle.obj_made.specs.declared.object.Content.{Content}
use Rattle.obj_made.specs.declared.object.Content.TheVariants.{Function, Blob, Scalar, Scalars, Typed, Elements}
use Rattle.obj_space.specs.declared.location.Location.{Location}
use Rattle.obj_space.specs.Spots.{Reached, reached, part_at}
use Rattle.obj_space.proofs.Followed.{no_part}
use Rattle.c_types.specs.declared.term.PathStep.TheVariants.{Index, Member}
use Rattle.obj_space.specs.View.{first_from}
use Rattle.ref_cells.specs.declared.cells.Cell.{Cell}
use Rattle.ref_cells.specs.declared.cells.Cell.TheVariants.{Unset, Number, Null, Pointer, Function as FunctionCell}
use Rattle.ref_cells.specs.declared.instance.Instance.{Instance}
use Rattle.ref_cells.specs.Cells.{CellList}
use Rattle.ref_cells.specs.Wholes.{is_allocated, whole_of}
use Rattle.covering_laws.specs.covered_memory.Cells.{EachCell}
use Rattle.covering_laws.proofs.covered_memory.Cells.{each_change as each_same}
use Rattle.covering_laws.specs.covered_memory.Spots.{spot, whole_part, IsFurther, IsInTree}
use Rattle.covering_laws.specs.covered_memory.Covered.{Sets, Lands, PointsIn, CellIn, row_by as pointing_by, pointer_row, CellsIn, object_row, HasShape, further_row, cell_row, InstanceIn, MemoryIn}
use Rattle.row_covers.specs.Cells.{Falls, PointsBy, CellBy, IsPast, SameRow, row_by, EntryBy, AreIn}
use Rattle.row_covers.specs.Objects.{is_class_of, IsScalarOf, element_in, IsArrayOf, IsComplete, FitsContent, MayWait, ShapeBy, rows_of, is_further, KindBy, OwnBy, LocatedBy, InstanceBy}

some_one : {X : Type 0} → {x y : X} → ◌≡◌ {A = Option X} (Some x) (Some y) → x ≡ y
some_one h = cc

none_some : {X : Type 0} → {x : X} → ◌≡◌ {A = Option X} None (Some x) → ⊥
none_some h = cc

some_none : {X : Type 0} → {x : X} → ◌≡◌ {A = Option X} (Some x) None → ⊥
some_none h = cc

pub all_each : (P : List PathStep → Cell → Type 0) (cells : CellList) → All (λ entry. P entry.0 entry.1) cells → EachCell P cells
all_each P [] h = tt
all_each P (e ∷ rest) h = (h 0 e (omega arith), all_each P rest (λ k d lt. h (suc k) d (omega arith)))

pub each_all : (P : List PathStep → Cell → Type 0) (cells : CellList) → EachCell P cells → All (λ entry. P entry.0 entry.1) cells
each_all P [] h k d lt = absurd (omega arith)
each_all P (e ∷ rest) h zero d lt = h.0
each_all P (e ∷ rest) h (suc k) d lt = each_all P rest h.1 k d (omega arith)

-- the set of a row has a location
pub lands_of : (F : Family) (row found : Option ℕ) → Falls F row found → Lands F row found
lands_of F None found h = absurd h
lands_of F (Some row) None h = absurd h
lands_of F (Some row) (Some l) h = record { at = row; location = l; row_is = refl; found_is = refl; has = h }

pub falls_of : (F : Family) (row found : Option ℕ) → Lands F row found → Falls F row found
falls_of F None found h = absurd (none_some h.row_is)
falls_of F (Some row) None h = absurd (none_some h.found_is)
falls_of F (Some row) (Some l) h = subst (λ (k : ℕ). Has F k l) (sym (some_one h.row_is)) (subst (λ (k : ℕ). Has F h.at k) (sym (some_one h.found_is)) h.has)

module _ (g : Sets) (memory : List Instance) where
  points_of : (row : Option ℕ) (i : ℕ) (path : List PathStep) (o : Option Instance) → slice_get memory i ≡ o → PointsBy g row path o → PointsIn g memory row i path
  points_of row i path None e h = absurd h
  points_of row i path (Some inst) e h = record { inst = inst; inst_is = e; in_tree = h.0; lands = lands_of g.family row (spot g.table g.space inst.key path) h.1 }

  pub cell_of_by : (row : Option ℕ) (cell : Cell) → CellBy g memory row cell → CellIn g memory row cell
  cell_of_by row (Pointer i path past) h = points_of row i path (slice_get memory i) refl h
  cell_of_by row (FunctionCell key) h = lands_of g.family row (spot g.table g.space key []) h
  cell_of_by row Unset h = tt
  cell_of_by row (Number n) h = tt
  cell_of_by row Null h = tt

  pub by_of_cell : (row : Option ℕ) (cell : Cell) → CellIn g memory row cell → CellBy g memory row cell
  by_of_cell row (Pointer i path past) h =
      subst (λ (o : Option Instance). PointsBy g row path o) (sym h.inst_is) (h.in_tree, falls_of g.family row (spot g.table g.space h.inst.key path) h.lands)
  by_of_cell row (FunctionCell key) h = falls_of g.family row (spot g.table g.space key []) h
  by_of_cell row Unset h = tt
  by_of_cell row (Number n) h = tt
  by_of_cell row Null h = tt

  pointer_same : (a b : ℕ → ℕ) → ((n : ℕ) → a n ≡ b n) → (r : Option Reached) → pointer_row a r ≡ pointer_row b r
  pointer_same a b same None = refl
  pointer_same a b same (Some r) = ap (λ (k : ℕ). pointer_row (λ n. k) (Some r)) (same r.node)

  pub cells_of_by : (a b : ℕ → ℕ) → ((n : ℕ) → a n ≡ b n) → (whole : Option Reached) (cells : CellList) → AreIn g memory a whole cells → CellsIn g memory b whole cells
  unfolding EntryBy
  cells_of_by a b same whole cells h =
      all_each (λ path cell. CellIn g memory (pointer_row b (part_at g.table whole path)) cell) cells
      (λ k d lt.
      let entry = get_or cells k d in
      subst (λ (o : Option ℕ). CellIn g memory o entry.1) (pointer_same a b same (part_at g.table whole entry.0)) (cell_of_by (pointer_row a (part_at g.table whole entry.0)) entry.1 (h k d lt)))

  pub by_of_cells : (a b : ℕ → ℕ) → ((n : ℕ) → a n ≡ b n) → (whole : Option Reached) (cells : CellList) → CellsIn g memory b whole cells → AreIn g memory a whole cells
  unfolding EntryBy
  by_of_cells a b same whole cells h k d lt =
      let e = each_all (λ path cell. CellIn g memory (pointer_row b (part_at g.table whole path)) cell) cells h k d lt in
      let entry = get_or cells k d in
      subst (λ (o : Option ℕ). CellBy g memory o entry.1) (sym (pointer_same a b same (part_at g.table whole entry.0))) (by_of_cell (pointer_row b (part_at g.table whole entry.0)) entry.1 e)

-- the type of an instance
array_to : (P : Ctype → Type 0) (t : Ctype) → IsArrayOf P (element_in t) → (of : Ctype) × (n : ℕ) × (t ≡ ArrayOf of (Some n)) × P of
array_to P (ArrayOf of (Some n)) h = (of, n, refl, h)
array_to P (ArrayOf of None) h = absurd h
array_to P t h = absurd h

pub shape_of_by : (table : Table) (content : Content) (whole : Option Ctype) → ShapeBy table content whole → HasShape table content whole
shape_of_by table Function None h = absurd h
shape_of_by table Function (Some t) h = absurd h
shape_of_by table Blob None h = inl refl
shape_of_by table Blob (Some t) h = inr (t, refl, h)
shape_of_by table (Scalar number) None h = absurd h
shape_of_by table (Scalar number) (Some t) h = (t, refl, h.0, h.1)
shape_of_by table (Scalars number) None h = absurd h
shape_of_by table (Scalars number) (Some t) h =
    let a = array_to (IsScalarOf number) t h in
    (a.0, a.1, ap (λ (x : Ctype). Some x) a.2, a.3.0, a.3.1)
shape_of_by table (Typed id) None h = absurd h
shape_of_by table (Typed id) (Some t) h = (ap (λ (x : Ctype). Some x) h.1, h.0)
shape_of_by table (Elements id) None h = (inl refl, h)
shape_of_by table (Elements id) (Some t) h =
    let a = array_to (λ of. of ≡ type_of table id.0) t h.1 in
    (inr (a.1, ap (λ (x : Ctype). Some x) (a.2 ∙ ap (λ (x : Ctype). ArrayOf x (Some a.1)) a.3)), h.0)

pub by_of_shape : (table : Table) (content : Content) (whole : Option Ctype) → HasShape table content whole → ShapeBy table content whole
by_of_shape table Function whole h = absurd h
by_of_shape table Blob None h = tt
by_of_shape table Blob (Some t) (inl e) = absurd (some_none e)
by_of_shape table Blob (Some t) (inr x) = subst (λ (s : Ctype). IsSome (extent_in table s)) (sym (some_one x.1)) x.2
by_of_shape table (Scalar number) None h = absurd (none_some h.1)
by_of_shape table (Scalar number) (Some t) h = subst (IsScalarOf number) (sym (some_one h.1)) (h.2, h.3)
by_of_shape table (Scalars number) None h = absurd (none_some h.2)
by_of_shape table (Scalars number) (Some t) h = subst (λ (s : Ctype). IsArrayOf (IsScalarOf number) (element_in s)) (sym (some_one h.2)) (h.3, h.4)
by_of_shape table (Typed id) None h = absurd (none_some h.0)
by_of_shape table (Typed id) (Some t) h = (h.1, some_one h.0)
by_of_shape table (Elements id) None h = h.1
by_of_shape table (Elements id) (Some t) h = (h.1, by h.0)
  where
    by : (Some t ≡ None) ⊎ ((n : ℕ) × (Some t ≡ Some (ArrayOf (type_of table id.0) (Some n)))) → IsArrayOf (λ of. of ≡ type_of table id.0) (element_in t)
    by (inl e) = absurd (some_none e)
    by (inr x) = subst (λ (s : Ctype). IsArrayOf (λ of. of ≡ type_of table id.0) (element_in s)) (sym (some_one x.1)) refl

rows_same : (table : Table) (content : Content) (first node : ℕ) → row_by table (rows_of content first) node ≡ object_row content first node
rows_same table Function first node = refl
rows_same table Blob first node = refl
rows_same table (Scalar number) first node = refl
rows_same table (Scalars number) first node = refl
rows_same table (Typed id) first node = refl
rows_same table (Elements id) first node = refl

further_true : (key : ObjectKey) → IsFurther key → is_further key ≡ true
further_true (VarargsKey e) f = refl
further_true key f = absurd f

true_further : (key : ObjectKey) → is_further key ≡ true → IsFurther key
true_further (VarargsKey e) h = tt
true_further key h = absurd (false≢true h)

untyped_to : (ty : Option TypeId) (key : ObjectKey) (content : Content) (b : Bool) → is_further key ≡ b → KindBy b ty key content → ty ≡ None → IsTrue (is_allocated key) ⊎ IsFurther key
untyped_to ty key content true is h e = inr (true_further key is)
untyped_to None key content false is (inl h) e = absurd (false≢true h)
untyped_to (Some id) key content false is (inl h) e = absurd (some_none e)
untyped_to ty key content false is (inr h) e = inl h

further_to : (ty : Option TypeId) (key : ObjectKey) (content : Content) (b : Bool) → is_further key ≡ b → KindBy b ty key content → IsFurther key → (ty ≡ None) × (content ≡ Blob)
further_to ty key content true is h f = h
further_to ty key content false is h f = absurd (false≢true (sym is ∙ further_true key f))

kind_from : (ty : Option TypeId) (key : ObjectKey) (content : Content) (b : Bool) → is_further key ≡ b → (ty ≡ None → IsTrue (is_allocated key) ⊎ IsFurther key) → (IsFurther key → (ty ≡ None) × (content ≡ Blob)) → KindBy b ty key content
kind_from ty key content true is h f = f (true_further key is)
kind_from (Some id) key content false is h f = inl refl
kind_from None key content false is h f = inr (elim (h refl) [ inl a ↦ a | inr x ↦ absurd (false≢true (sym is ∙ further_true key x)) ])

further_is : (key : ObjectKey) (first : ℕ) (row : Option ℕ) → is_further key ≡ true → further_row key first row ≡ Some first
further_is (VarargsKey e) first row h = refl
further_is key first row h = absurd (false≢true h)

plain_is : (key : ObjectKey) (first : ℕ) (row : Option ℕ) → is_further key ≡ false → further_row key first row ≡ row
plain_is (VarargsKey e) first row h = absurd (false≢true (sym h))
plain_is key first row h = refl

-- the cells of an instance, whose rows its key tells
module _ (g : Sets) (memory : List Instance) (inst : Instance) (content : Content) (first : ℕ) where
  abbrev IsOwn : List PathStep → Cell → Type 0
  IsOwn path cell = CellIn g memory (cell_row g.table inst content first path) cell

  own_to : (b : Bool) → is_further inst.key ≡ b → OwnBy g memory b content first (whole_of g.table inst) inst.cells → EachCell IsOwn inst.cells
  own_to true is h =
      all_each IsOwn inst.cells
      (λ k d lt.
      let entry = get_or inst.cells k d in
      subst (λ (o : Option ℕ). CellIn g memory o entry.1) (sym (further_is inst.key first (pointer_row (object_row content first) (part_at g.table (whole_part (whole_of g.table inst)) entry.0)) is))
      (cell_of_by g memory (Some first) entry.1 (h k d lt)))
  own_to false is h =
      each_same (λ path cell. CellIn g memory (pointer_row (object_row content first) (part_at g.table (whole_part (whole_of g.table inst)) path)) cell) IsOwn inst.cells
      (λ path cell x. subst (λ (o : Option ℕ). CellIn g memory o cell) (sym (plain_is inst.key first (pointer_row (object_row content first) (part_at g.table (whole_part (whole_of g.table inst)) path)) is)) x)
      (cells_of_by g memory (row_by g.table (rows_of content first)) (object_row content first) (rows_same g.table content first) (whole_part (whole_of g.table inst)) inst.cells h)

  own_from : (b : Bool) → is_further inst.key ≡ b → EachCell IsOwn inst.cells → OwnBy g memory b content first (whole_of g.table inst) inst.cells
  own_from true is h =
      λ k d lt.
      let entry = get_or inst.cells k d in
      by_of_cell g memory (Some first) entry.1
      (subst (λ (o : Option ℕ). CellIn g memory o entry.1) (further_is inst.key first (pointer_row (object_row content first) (part_at g.table (whole_part (whole_of g.table inst)) entry.0)) is) (each_all IsOwn inst.cells h k d lt))
  own_from false is h =
      by_of_cells g memory (row_by g.table (rows_of content first)) (object_row content first) (rows_same g.table content first) (whole_part (whole_of g.table inst)) inst.cells
      (each_same IsOwn (λ path cell. CellIn g memory (pointer_row (object_row content first) (part_at g.table (whole_part (whole_of g.table inst)) path)) cell) inst.cells
      (λ path cell x. subst (λ (o : Option ℕ). CellIn g memory o cell) (plain_is inst.key first (pointer_row (object_row content first) (part_at g.table (whole_part (whole_of g.table inst)) path)) is) x) h)

module _ (g : Sets) (memory : List Instance) (inst : Instance) where
  located_to : (first : ℕ) (x : Option Location) → first_from 0 g.space inst.key ≡ Some first → slice_get g.space first ≡ x → LocatedBy g memory inst first x → InstanceIn g memory inst
  located_to first None e f h = absurd h
  located_to first (Some x) e f h = record {
    first = first;
    location = x;
    first_is = e;
    location_is = f;
    shape = shape_of_by g.table x.content (whole_of g.table inst) h.0;
    untyped = untyped_to inst.ty inst.key x.content (is_further inst.key) refl h.1;
    further = further_to inst.ty inst.key x.content (is_further inst.key) refl h.1;
    cells = own_to g memory inst x.content first (is_further inst.key) refl h.2;
  }

  instance_to : (o : Option ℕ) → first_from 0 g.space inst.key ≡ o → InstanceBy g memory inst o → InstanceIn g memory inst
  instance_to None e h = absurd h
  instance_to (Some first) e h = located_to first (slice_get g.space first) e refl h

  pub instance_of_by : InstanceBy g memory inst (first_from 0 g.space inst.key) → InstanceIn g memory inst
  instance_of_by h = instance_to (first_from 0 g.space inst.key) refl h

  pub by_of_instance : InstanceIn g memory inst → InstanceBy g memory inst (first_from 0 g.space inst.key)
  by_of_instance h =
      subst (InstanceBy g memory inst) (sym h.first_is)
      (subst (LocatedBy g memory inst h.first) (sym h.location_is) (
        by_of_shape g.table h.location.content (whole_of g.table inst) h.shape,
        kind_from inst.ty inst.key h.location.content (is_further inst.key) refl h.untyped h.further,
        own_from g memory inst h.location.content h.first (is_further inst.key) refl h.cells,
      ))

neither : ⊥ ⊎ ⊥ → ⊥
neither (inl h) = h
neither (inr h) = h

-- the class of a scalar is its number's
pub class_tells : (number : ℕ) (t : Ctype) → IsTrue (is_class_of number (class_of_type t)) ↔ IsScalarOf number t
class_tells number BoolType = (λ h. (inl tt, sym (eqb-true number 0 h)), λ h. eq-eqb number 0 (sym h.1))
class_tells number (IntegerType size rank signed) = (λ h. (inl tt, sym (eqb-true number (size_number size) h)), λ h. eq-eqb number (size_number size) (sym h.1))
class_tells number (PointerTo to) = (λ h. (inr tt, sym (eqb-true number 4 h)), λ h. eq-eqb number 4 (sym h.1))
class_tells number VoidType = (λ h. absurd (false≢true h), λ h. absurd (neither h.0))
class_tells number FloatingType = (λ h. absurd (false≢true h), λ h. absurd (neither h.0))
class_tells number VaListType = (λ h. absurd (false≢true h), λ h. absurd (neither h.0))
class_tells number (ArrayOf of n) = (λ h. absurd (false≢true h), λ h. absurd (neither h.0))
class_tells number (FunctionFrom result parameters form) = (λ h. absurd (false≢true h), λ h. absurd (neither h.0))
class_tells number (StructureOf tag) = (λ h. absurd (false≢true h), λ h. absurd (neither h.0))
class_tells number (UnionOf tag) = (λ h. absurd (false≢true h), λ h. absurd (neither h.0))

-- rows that are alike decide alike
module _ (F : Family) (few : (row l : ℕ) → Has F row l → row < 4294967295) where
  past_falls : (a : Option ℕ) (found : Option ℕ) → IsPast a → Falls F a found → ⊥
  past_falls None found past h = absurd h
  past_falls (Some row) None past h = h
  past_falls (Some row) (Some l) past h = (let lt = few row l h in let bad : ⊥ = omega arith in bad)

  pub falls_same : (a b found : Option ℕ) → SameRow a b → Falls F a found → Falls F b found
  falls_same a b found (inl e) h = subst (λ (o : Option ℕ). Falls F o found) e h
  falls_same a b found (inr past) h = absurd (past_falls a found past.0 h)

same_back : (a b : Option ℕ) → SameRow a b → SameRow b a
same_back a b (inl e) = inl (sym e)
same_back a b (inr past) = inr (past.1, past.0)

module _ (g : Sets) (memory : List Instance) (few : (row l : ℕ) → Has g.family row l → row < 4294967295) where
  points_same : (a b : Option ℕ) (path : List PathStep) (o : Option Instance) → SameRow a b → PointsBy g a path o → PointsBy g b path o
  points_same a b path None same h = h
  points_same a b path (Some inst) same h = (h.0, falls_same g.family few a b (spot g.table g.space inst.key path) same h.1)

  cell_one : (a b : Option ℕ) (cell : Cell) → SameRow a b → CellBy g memory a cell → CellBy g memory b cell
  cell_one a b (Pointer i path past) same h = points_same a b path (slice_get memory i) same h
  cell_one a b (FunctionCell key) same h = falls_same g.family few a b (spot g.table g.space key []) same h
  cell_one a b Unset same h = tt
  cell_one a b (Number n) same h = tt
  cell_one a b Null same h = tt

  pub cell_same : (a b : Option ℕ) (cell : Cell) → SameRow a b → CellBy g memory a cell ↔ CellBy g memory b cell
  cell_same a b cell same = (cell_one a b cell same, cell_one b a cell (same_back a b same))

-- the row of a node's number as far as 32 bits hold it
kept_near : (nodes : List Ctype) (n : ℕ) → length nodes ≤ 2 ^ 24 → take (near n) nodes ≡ take n nodes
kept_near nodes n few = elim (cases_lt n 4294967295) [
  | inl lt ↦ ap (λ (k : ℕ). take k nodes) (let same : near n ≡ n = omega arith in same)
  | inr ge ↦ take_all (near n) nodes (omega arith) ∙ sym (take_all n nodes (omega arith))
]

few_nodes : (o : Option Extent) → length (nodes_in o) ≤ 2 ^ 24
few_nodes None = omega arith
few_nodes (Some e) = by (nat_lt (length e.nodes) (2 ^ 24 + 1)) refl
  where
    by : (b : Bool) → nat_lt (length e.nodes) (2 ^ 24 + 1) ≡ b → length (cond b e.nodes []) ≤ 2 ^ 24
    by true is = (let lt : length e.nodes < 2 ^ 24 + 1 = ltb-true (length e.nodes) (2 ^ 24 + 1) is in omega arith)
    by false is = omega arith

row_near : (table : Table) (rows : NodeRows) (node x : ℕ) → node ≡ near x → SameRow (Some (row_by table rows node)) (Some (row_by table rows x))
row_near table (ObjectRows first) node x e = elim (cases_lt x 4294967295) [
  | inl lt ↦ inl (ap (λ (k : ℕ). let r : Option ℕ = Some (first + k) in r) (let same : node ≡ x = omega arith in same))
  | inr ge ↦ inr ((omega arith), (omega arith))
]
row_near table (BlobRow first) node x e = inl refl
row_near table (ValueRows first ty) node x e =
    inl (ap (λ (ns : List Ctype). let r : Option ℕ = Some (first + kept_count ns) in r)
    (ap (λ (k : ℕ). take k (nodes_of table (type_of table ty.0))) e ∙ kept_near (nodes_of table (type_of table ty.0)) x (few_nodes (extent_in table (type_of table ty.0)))))

pointing_is : (t : Ctype) (row : ℕ) → cond (is_pointing t) (Some row) None ≡ pointing_by t row
pointing_is VoidType row = refl
pointing_is BoolType row = refl
pointing_is (IntegerType size rank signed) row = refl
pointing_is FloatingType row = refl
pointing_is VaListType row = refl
pointing_is (PointerTo to) row = refl
pointing_is (ArrayOf of n) row = refl
pointing_is (FunctionFrom result parameters form) row = refl
pointing_is (StructureOf tag) row = refl
pointing_is (UnionOf tag) row = refl

-- the row of the end of a path
pub end_row : (table : Table) (rows : NodeRows) (r : Option Reached) (e : End) (b : Bool) → e.pointer ≡ b → IsEnd r (Some e) → SameRow (cond b (Some (row_by table rows e.node)) None) (pointer_row (row_by table rows) r)
end_row table rows r e b is (x, there, node, pointer) =
    subst (λ (o : Option Reached). SameRow (cond b (Some (row_by table rows e.node)) None) (pointer_row (row_by table rows) o)) (sym there)
    (subst (SameRow (cond b (Some (row_by table rows e.node)) None)) (pointing_is x.ty (row_by table rows x.node))
    (subst (λ (c : Bool). SameRow (cond b (Some (row_by table rows e.node)) None) (cond c (Some (row_by table rows x.node)) None)) (sym is ∙ pointer) (same b)))
  where
    same : (c : Bool) → SameRow (cond c (Some (row_by table rows e.node)) None) (cond c (Some (row_by table rows x.node)) None)
    same true = row_near table rows e.node x.node node
    same false = inl refl

pub no_row : (table : Table) (rows : NodeRows) (r : Option Reached) → IsEnd r None → SameRow None (pointer_row (row_by table rows) r)
no_row table rows r e = inl (sym (ap (pointer_row (row_by table rows)) e))

-- the location of a part, as far as 32 bits hold it
pub within_row : (o : Option ℕ) → SameRow (within_32 o) o
within_row None = inl refl
within_row (Some n) = by (nat_lt n (2 ^ 32)) refl
  where
    by : (b : Bool) → nat_lt n (2 ^ 32) ≡ b → SameRow (cond b (Some n) None) (Some n)
    by true is = inl refl
    by false is = (let far : 2 ^ 32 ≤ n = ltb-false n (2 ^ 32) is in inr (tt, (omega arith)))

-- nothing of type void has a row
void_row : (table : Table) (row : ℕ → ℕ) (path : List PathStep) → pointer_row row (part_at table (Some (reached VoidType 0 false)) path) ≡ None
void_row table row [] = refl
void_row table row (Index i ∷ rest) = ap (pointer_row row) (no_part table rest)
void_row table row (Member k ∷ rest) = ap (pointer_row row) (no_part table rest)

pub void_cells : (g : Sets) (memory : List Instance) (row : ℕ → ℕ) (cells : CellList) → All (λ entry. CellBy g memory None entry.1) cells ↔ All (λ entry. EntryBy g memory row (Some (reached VoidType 0 false)) entry) cells
unfolding EntryBy
void_cells g memory row cells = (
  λ h k d lt. subst (λ (o : Option ℕ). CellBy g memory o (get_or cells k d).1) (sym (void_row g.table row (get_or cells k d).0)) (h k d lt),
  λ h k d lt. subst (λ (o : Option ℕ). CellBy g memory o (get_or cells k d).1) (void_row g.table row (get_or cells k d).0) (h k d lt),
)
