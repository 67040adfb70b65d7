-- What isn't touched stays covered, since each instance goes on as the same object.
use Rattle.std.proofs.Common.{arith, ◌≡◌, ◌∙◌, ℕ, zero, suc, ◌+◌, false, IsTrue, ◌⊎◌, inl, inr, List, [], ◌∷◌, ◌++◌, Option, Some, None, set, slice_get, refl, sym, ap, subst}
use Rattle.std.specs.Option.{option_map}
use Rattle.std.proofs.lemmas.Bool.{cases_eq, false≢true}
use Rattle.c_types.specs.declared.key.ObjectKey.{ObjectKey}
use Rattle.c_types.specs.declared.key.ObjectKey.TheVariants.{Varargs as VarargsKey, Outside as OutsideKey, Entity as EntityKey, Text as TextKey, Call as CallKey, Library as LibraryKey, Star as StarKey, Function as FunctionKey}
use Rattle.c_types.specs.declared.term.PathStep.{PathStep}
use Rattle.c_types.specs.declared.term.TypeId.{TypeId}
use Rattle.c_types.specs.Trees.{Ctype}
use Rattle.obj_made.specs.declared.object.Content.{Content}
use Rattle.obj_made.specs.declared.object.Content.TheVariants.{Blob}
use Rattle.obj_space.specs.declared.location.Location.{Location}
use Rattle.obj_space.specs.Spots.{Reached, reached, part_at, node_in}
use Rattle.obj_space.proofs.Followed.{no_part}
use Rattle.ref_cells.specs.declared.cells.Cell.{Cell}
use Rattle.ref_cells.specs.declared.cells.Cell.TheVariants.{Unset, Number, Null, Pointer, Function}
use Rattle.ref_cells.specs.declared.cells.Value.{Value}
use Rattle.ref_cells.specs.declared.instance.Instance.{Instance}
use Rattle.ref_cells.specs.Cells.{CellList}
use Rattle.ref_cells.specs.Wholes.{is_allocated, typed_whole, whole_of}
use Rattle.covering_laws.specs.covered_memory.Spots.{spot_at, spot_from, spot, whole_part, IsFurther}
use Rattle.covering_laws.specs.covered_memory.Covered.{Sets, Lands, PointsIn, CellIn, pointer_row, CellsIn, ValueIn, object_row, further_row, cell_row, InstanceIn, MemoryIn, GoesOn, Extends, Leaves}
use Rattle.covering_laws.specs.covered_memory.Cells.{EachCell}
use Rattle.covering_laws.proofs.covered_memory.Cells.{each_change}

some_one : {X : Type 0} → {x y : X} → ◌≡◌ {A = Option X} (Some x) (Some y) → x ≡ y
some_one h = cc

none_some : {X : Type 0} → {x : X} → ◌≡◌ {A = Option X} None (Some x) → ⊥
none_some h = cc

-- what is allocated is no object of further arguments
pub heap_plain : (key : ObjectKey) → IsTrue (is_allocated key) → IsFurther key → ⊥
heap_plain (VarargsKey e) heap f = false≢true heap
heap_plain (EntityKey e) heap f = f
heap_plain (TextKey n) heap f = f
heap_plain (CallKey n) heap f = f
heap_plain (LibraryKey k) heap f = f
heap_plain (StarKey k) heap f = f
heap_plain OutsideKey heap f = f
heap_plain (FunctionKey k) heap f = f

-- any other object's cells are in the rows of their parts
plain_row : (key : ObjectKey) (first : ℕ) (row : Option ℕ) → (IsFurther key → ⊥) → further_row key first row ≡ row
plain_row (VarargsKey e) first row plain = absurd (plain tt)
plain_row (EntityKey e) first row plain = refl
plain_row (TextKey n) first row plain = refl
plain_row (CallKey n) first row plain = refl
plain_row (LibraryKey k) first row plain = refl
plain_row (StarKey k) first row plain = refl
plain_row OutsideKey first row plain = refl
plain_row (FunctionKey k) first row plain = refl

module _ (g : Sets) where
  pub goes_on : (a : Instance) → GoesOn g a a
  goes_on a = record { key = refl; in_tree = λ path h. h; whole = λ t h. h }

  pub same_memory : (memory : List Instance) → Extends g memory memory
  same_memory memory i a h = (a, h, goes_on a)

  pub then_extends : (a b c : List Instance) → Extends g a b → Extends g b c → Extends g a c
  then_extends a b c f h i x e =
      let y = f i x e in
      let z = h i y.0 y.1 in (
        z.0,
        z.1,
        record {
          key = z.2.key ∙ y.2.key;
          in_tree = λ path p. z.2.in_tree path (y.2.in_tree path p);
          whole = λ t p. z.2.whole t (y.2.whole t p);
        },
      )

  module _ (old new : List Instance) (extends : Extends g old new) where
    points_stay : (row : Option ℕ) (i : ℕ) (path : List PathStep) → PointsIn g old row i path → PointsIn g new row i path
    points_stay row i path h =
        let b = extends i h.inst h.inst_is in
        record {
          inst = b.0;
          inst_is = b.1;
          in_tree = b.2.in_tree path h.in_tree;
          lands = subst (λ (k : ObjectKey). Lands g.family row (spot g.table g.space k path)) (sym b.2.key) h.lands;
        }

    pub cell_stays : (row : Option ℕ) (c : Cell) → CellIn g old row c → CellIn g new row c
    cell_stays row (Pointer i path past) h = points_stay row i path h
    cell_stays row (Function key) h = h
    cell_stays row Unset h = tt
    cell_stays row (Number n) h = tt
    cell_stays row Null h = tt

    pub cells_stay : (row : ℕ → ℕ) (whole : Option Reached) (cells : CellList) → CellsIn g old row whole cells → CellsIn g new row whole cells
    cells_stay row whole cells h =
        each_change (λ p c. CellIn g old (pointer_row row (part_at g.table whole p)) c) (λ p c. CellIn g new (pointer_row row (part_at g.table whole p)) c) cells
        (λ p c. cell_stays (pointer_row row (part_at g.table whole p)) c) h

    pub value_stays : (row : ℕ → ℕ) (t : Ctype) (v : Value) → ValueIn g old row t v → ValueIn g new row t v
    value_stays row t v h = cells_stay row (Some (reached t 0 false)) v.cells h

    pub instance_stays : (inst : Instance) → InstanceIn g old inst → InstanceIn g new inst
    instance_stays inst h = record {
      first = h.first;
      location = h.location;
      first_is = h.first_is;
      location_is = h.location_is;
      shape = h.shape;
      untyped = h.untyped;
      further = h.further;
      cells = each_change (λ p c. CellIn g old (cell_row g.table inst h.location.content h.first p) c) (λ p c. CellIn g new (cell_row g.table inst h.location.content h.first p) c) inst.cells
          (λ p c. cell_stays (cell_row g.table inst h.location.content h.first p) c) h.cells;
    }

  -- where there is no row nothing is pointed to, so the cell is in any
  pub cell_from_none : (memory : List Instance) (row : Option ℕ) (c : Cell) → CellIn g memory None c → CellIn g memory row c
  cell_from_none memory row (Pointer i path past) h = absurd (none_some h.lands.row_is)
  cell_from_none memory row (Function key) h = absurd (none_some h.row_is)
  cell_from_none memory row Unset h = tt
  cell_from_none memory row (Number n) h = tt
  cell_from_none memory row Null h = tt

  module _ (memory : List Instance) (inst : Instance) (content : Content) (first : ℕ) where
    -- a cell that is covered in the row of its part is in its own, also where it has no part
    pub own_in : (IsFurther inst.key → inst.ty ≡ None) → (p : List PathStep) (c : Cell) → CellIn g memory (pointer_row (object_row content first) (part_at g.table (whole_part (whole_of g.table inst)) p)) c
        → CellIn g memory (cell_row g.table inst content first p) c
    own_in further p c h = by inst.key (λ f. further f)
      where
        by : (key : ObjectKey) → (IsFurther key → inst.ty ≡ None) → CellIn g memory (further_row key first (pointer_row (object_row content first) (part_at g.table (whole_part (whole_of g.table inst)) p))) c
        by (VarargsKey e) none =
            cell_from_none memory (Some first) c
            (subst (λ (o : Option ℕ). CellIn g memory o c)
            (ap (λ (t : Option TypeId). pointer_row (object_row content first) (part_at g.table (whole_part (typed_whole g.table inst t)) p)) (none tt) ∙ ap (pointer_row (object_row content first)) (no_part g.table p)) h)
        by (EntityKey e) none = h
        by (TextKey n) none = h
        by (CallKey n) none = h
        by (LibraryKey k) none = h
        by (StarKey k) none = h
        by OutsideKey none = h
        by (FunctionKey k) none = h

    -- a cell of any other object is covered in the row of its part
    pub own_out : (IsFurther inst.key → ⊥) → (p : List PathStep) (c : Cell) → CellIn g memory (cell_row g.table inst content first p) c
        → CellIn g memory (pointer_row (object_row content first) (part_at g.table (whole_part (whole_of g.table inst)) p)) c
    own_out plain p c h =
        subst (λ (o : Option ℕ). CellIn g memory o c) (plain_row inst.key first (pointer_row (object_row content first) (part_at g.table (whole_part (whole_of g.table inst)) p)) plain) h

    pub cells_in : (IsFurther inst.key → inst.ty ≡ None) → (list : CellList) → CellsIn g memory (object_row content first) (whole_part (whole_of g.table inst)) list
        → EachCell (λ p c. CellIn g memory (cell_row g.table inst content first p) c) list
    cells_in further list h =
        each_change (λ p c. CellIn g memory (pointer_row (object_row content first) (part_at g.table (whole_part (whole_of g.table inst)) p)) c) (λ p c. CellIn g memory (cell_row g.table inst content first p) c) list
        (own_in further) h

    pub cells_out : (IsFurther inst.key → ⊥) → (list : CellList) → EachCell (λ p c. CellIn g memory (cell_row g.table inst content first p) c) list
        → CellsIn g memory (object_row content first) (whole_part (whole_of g.table inst)) list
    cells_out plain list h =
        each_change (λ p c. CellIn g memory (cell_row g.table inst content first p) c) (λ p c. CellIn g memory (pointer_row (object_row content first) (part_at g.table (whole_part (whole_of g.table inst)) p)) c) list
        (own_out plain) h

  -- what has a type is no object of further arguments
  pub typed_plain : (memory : List Instance) (inst : Instance) → InstanceIn g memory inst → (whole : Ctype) → whole_of g.table inst ≡ Some whole → IsFurther inst.key → ⊥
  typed_plain memory inst h whole is f = none_some (sym (ap (typed_whole g.table inst) (h.further f).0) ∙ is)

  -- each place of what a variadic function is passed past its parameters is at the one location of its object
  pub further_spot : (memory : List Instance) (inst : Instance) (h : InstanceIn g memory inst) → h.location.content ≡ Blob → (path : List PathStep) → spot g.table g.space inst.key path ≡ Some h.first
  further_spot memory inst h blob path =
      ap (λ (o : Option ℕ). spot_from g.table g.space o path) h.first_is
      ∙ (ap (λ (o : Option Location). spot_at g.table h.first o path) h.location_is
      ∙ (ap (λ (c : Content). option_map (λ (n : ℕ). h.first + n) (node_in g.table c path)) blob ∙ ap (λ (n : ℕ). Some n) (let e : h.first + 0 ≡ h.first = omega arith in e)))

  set_same : (xs : List Instance) (i : ℕ) (a b : Instance) → slice_get xs i ≡ Some a → slice_get (set xs i b) i ≡ Some b
  set_same [] i a b e = absurd (none_some e)
  set_same (x ∷ xs) zero a b e = refl
  set_same (x ∷ xs) (suc i) a b e = set_same xs i a b e

  set_other : (xs : List Instance) (i j : ℕ) (v : Instance) → (i ≡ j → ⊥) → slice_get (set xs i v) j ≡ slice_get xs j
  set_other [] i j v h = refl
  set_other (x ∷ xs) zero zero v h = absurd (h refl)
  set_other (x ∷ xs) zero (suc j) v h = refl
  set_other (x ∷ xs) (suc i) zero v h = refl
  set_other (x ∷ xs) (suc i) (suc j) v h = set_other xs i j v (λ q. h (ap (λ (n : ℕ). suc n) q))

  pub set_extends : (memory : List Instance) (i : ℕ) (a b : Instance) → slice_get memory i ≡ Some a → GoesOn g a b → Extends g memory (set memory i b)
  set_extends memory i a b at on j x e = by (cases_eq i j)
    where
      by : (i ≡ j) ⊎ (i ≡ j → ⊥) → (y : Instance) × (slice_get (set memory i b) j ≡ Some y) × GoesOn g x y
      by (inl q) =
          let same : a ≡ x = some_one (sym at ∙ (ap (slice_get memory) q ∙ e)) in
          (b, ap (slice_get (set memory i b)) (sym q) ∙ set_same memory i a b at, subst (λ (z : Instance). GoesOn g z b) same on)
      by (inr ne) = (x, set_other memory i j b ne ∙ e, goes_on x)

  -- an instance is replaced by one that is covered beside the old ones
  pub replaced : (memory : List Instance) (i : ℕ) (a b : Instance) → slice_get memory i ≡ Some a → GoesOn g a b → MemoryIn g memory → InstanceIn g memory b → Leaves g memory (set memory i b)
  replaced memory i a b at on all h =
      let more = set_extends memory i a b at on in
      record {
        extends = more;
        covered = λ j x e. by more j x e (cases_eq i j);
      }
    where
      by : Extends g memory (set memory i b) → (j : ℕ) (x : Instance) → slice_get (set memory i b) j ≡ Some x → (i ≡ j) ⊎ (i ≡ j → ⊥) → InstanceIn g (set memory i b) x
      by more j x e (inl q) =
          let same : b ≡ x = some_one (sym (set_same memory i a b at) ∙ (ap (slice_get (set memory i b)) q ∙ e)) in
          subst (InstanceIn g (set memory i b)) same (instance_stays memory (set memory i b) more b h)
      by more j x e (inr ne) = instance_stays memory (set memory i b) more x (all j x (sym (set_other memory i j b ne) ∙ e))

  get_front : (xs ys : List Instance) (i : ℕ) (a : Instance) → slice_get xs i ≡ Some a → slice_get (xs ++ ys) i ≡ Some a
  get_front [] ys i a e = absurd (none_some e)
  get_front (x ∷ xs) ys zero a e = e
  get_front (x ∷ xs) ys (suc i) a e = get_front xs ys i a e

  pub more_extends : (memory more : List Instance) → Extends g memory (memory ++ more)
  more_extends memory more i a e = (a, get_front memory more i a e, goes_on a)

  get_end : (xs : List Instance) (b : Instance) (i : ℕ) (a : Instance) → slice_get (xs ++ b ∷ []) i ≡ Some a → (slice_get xs i ≡ Some a) ⊎ (b ≡ a)
  get_end [] b zero a e = inr (some_one e)
  get_end [] b (suc i) a e = absurd (none_some e)
  get_end (x ∷ xs) b zero a e = inl e
  get_end (x ∷ xs) b (suc i) a e = get_end xs b i a e

  -- a new instance behind the others
  pub one_more : (memory : List Instance) (b : Instance) → MemoryIn g memory → InstanceIn g memory b → Leaves g memory (memory ++ b ∷ [])
  one_more memory b all h =
      let more = more_extends memory (b ∷ []) in
      record {
        extends = more;
        covered = λ j x e. elim (get_end memory b j x e) [
          | inl before ↦ instance_stays memory (memory ++ b ∷ []) more x (all j x before)
          | inr same ↦ subst (InstanceIn g (memory ++ b ∷ [])) same (instance_stays memory (memory ++ b ∷ []) more b h)
        ];
      }
