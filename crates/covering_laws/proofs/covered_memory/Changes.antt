-- Instances that are made, ended, typed and cleared, and parts that are put into one.
use Rattle.std.proofs.Common.{◌≡◌, ◌∙◌, ◌⊎◌, inr, ℕ, Bool, true, false, cond, List, [], ◌∷◌, ◌++◌, Option, Some, None, IsSome, IsTrue, slice_get, refl, sym, ap, subst}
use Rattle.c_types.specs.declared.term.PathStep.{PathStep}
use Rattle.c_types.specs.declared.term.PathStep.TheVariants.{Index}
use Rattle.c_types.specs.declared.term.TypeId.{TypeId}
use Rattle.c_types.specs.Trees.{Ctype, ArrayOf}
use Rattle.c_types.specs.Table.{type_of, extent_in, size_below}
use Rattle.sol_model.specs.declared.system.System.{System}
use Rattle.obj_made.specs.declared.object.Content.{Content}
use Rattle.obj_made.specs.declared.object.Content.TheVariants.{Function as FunctionContent, Blob, Scalar, Scalars, Typed, Elements}
use Rattle.obj_space.specs.declared.location.Location.{Location}
use Rattle.obj_space.specs.Spots.{Reached, part_at}
use Rattle.obj_space.specs.View.{first_from}
use Rattle.ref_cells.specs.declared.instance.Instance.{Instance}
use Rattle.ref_cells.specs.Cells.{CellList}
use Rattle.ref_cells.specs.Puts.{put}
use Rattle.ref_cells.specs.Wholes.{is_allocated, elements_of, typed_whole, whole_of}
use Rattle.ref_mem.specs.Writes.{changed, put_all, with_parts}
use Rattle.covering_laws.specs.covered_memory.Cells.{EachCell}
use Rattle.covering_laws.specs.covered_memory.Spots.{whole_part, IsFurther, room, IsInTree}
use Rattle.covering_laws.specs.covered_memory.Covered.{Sets, CellIn, pointer_row, CellsIn, object_row, cell_row, HasShape, InstanceIn, MemoryIn, GoesOn, Leaves}
use Rattle.covering_laws.specs.covered_memory.Demands.{Grounds}
use Rattle.covering_laws.proofs.covered_memory.Cells.{each_change}
use Rattle.covering_laws.proofs.covered_memory.Filled.{nowhere}
use Rattle.covering_laws.proofs.covered_memory.Puts.{put_each, part_along}
use Rattle.covering_laws.proofs.covered_memory.Parts.{repeated_some}
use Rattle.covering_laws.proofs.covered_memory.Stays.{heap_plain, same_memory, cell_from_none, own_in, own_out, cells_in, replaced, one_more}
use Rattle.covering_laws.proofs.covered_memory.Access.{with_own}

some_one : {X : Type 0} → {x y : X} → ◌≡◌ {A = Option X} (Some x) (Some y) → x ≡ y
some_one h = cc

none_some : {X : Type 0} → {x : X} → ◌≡◌ {A = Option X} None (Some x) → ⊥
none_some h = cc

some_none : {X : Type 0} → {x : X} → ◌≡◌ {A = Option X} (Some x) None → ⊥
some_none h = cc

-- what an instance that is made begins as: it is of an object of the program, has its type or none yet, and no cells
pub record Begins (g : Sets) (inst : Instance) : Type 0 where
  pub first : ℕ
  pub location : Location
  pub first_is : first_from 0 g.space inst.key ≡ Some first
  pub location_is : slice_get g.space first ≡ Some location
  pub shape : HasShape g.table location.content (whole_of g.table inst)
  pub untyped : inst.ty ≡ None → IsTrue (is_allocated inst.key) ⊎ IsFurther inst.key
  pub further : IsFurther inst.key → (inst.ty ≡ None) × (location.content ≡ Blob)

module _ (g : Sets) (system : System) (grounds : Grounds g.table g.space system) where
  -- A new instance leaves a memory covered.
  pub new_law : (memory : List Instance) (inst : Instance) → MemoryIn g memory → (b : Begins g inst) → CellsIn g memory (object_row b.location.content b.first) (whole_part (whole_of g.table inst)) inst.cells
      → Leaves g memory (memory ++ inst ∷ [])
  new_law memory inst all b cells =
      one_more g memory inst all
      (record {
        first = b.first;
        location = b.location;
        first_is = b.first_is;
        location_is = b.location_is;
        shape = b.shape;
        untyped = b.untyped;
        further = b.further;
        cells = cells_in g memory inst b.location.content b.first (λ f. (b.further f).0) inst.cells cells;
      })

  -- One instance changes.
  pub change_law : (memory : List Instance) (i : ℕ) (change : Instance → Instance) → MemoryIn g memory
      → ((a : Instance) → slice_get memory i ≡ Some a → InstanceIn g memory a → GoesOn g a (change a) × InstanceIn g memory (change a)) → Leaves g memory (changed memory i (slice_get memory i) change)
  change_law memory i change all each = by (slice_get memory i) refl
    where
      by : (o : Option Instance) → slice_get memory i ≡ o → Leaves g memory (changed memory i o change)
      by None e = record { extends = same_memory g memory; covered = all }
      by (Some a) e = (let c = each a e (all i a e) in replaced g memory i a (change a) e c.0 all c.1)

  -- An instance ends.
  pub end_law : (memory : List Instance) (i : ℕ) → MemoryIn g memory → Leaves g memory (changed memory i (slice_get memory i) (λ inst. record inst { live = false }))
  end_law memory i all =
      change_law memory i (λ inst. record inst { live = false }) all
      (λ a e h. (
        record { key = refl; in_tree = λ p x. x; whole = λ t x. x },
        record { first = h.first; location = h.location; first_is = h.first_is; location_is = h.location_is; shape = h.shape; untyped = h.untyped; further = h.further; cells = h.cells },
      ))

  -- An instance gets the mark by which what isn't listed is zero.
  pub zero_law : (memory : List Instance) (i : ℕ) → MemoryIn g memory → Leaves g memory (changed memory i (slice_get memory i) (λ inst. record inst { zero = true }))
  zero_law memory i all =
      change_law memory i (λ inst. record inst { zero = true }) all
      (λ a e h. (
        record { key = refl; in_tree = λ p x. x; whole = λ t x. x },
        record { first = h.first; location = h.location; first_is = h.first_is; location_is = h.location_is; shape = h.shape; untyped = h.untyped; further = h.further; cells = h.cells },
      ))

  -- Each cell of an instance becomes zero or null.
  pub clear_law : (memory : List Instance) (i : ℕ) → MemoryIn g memory → Leaves g memory (changed memory i (slice_get memory i) (λ inst. record inst { zero = true; cells = [] }))
  clear_law memory i all =
      change_law memory i (λ inst. record inst { zero = true; cells = [] }) all
      (λ a e h. (
        record { key = refl; in_tree = λ p x. x; whole = λ t x. x },
        record { first = h.first; location = h.location; first_is = h.first_is; location_is = h.location_is; shape = h.shape; untyped = h.untyped; further = h.further; cells = tt },
      ))

  -- the type that an untyped instance gets is that of its object's elements
  abbrev pub Takes : TypeId → Content → Type 0
  Takes id (Elements other) = type_of g.table id.0 ≡ type_of g.table other.0
  Takes id content = Unit {0}

  abbrev whole_with : Instance → TypeId → Option Ctype
  whole_with a id = typed_whole g.table a (Some id)

  array_of : (a : Instance) (id : TypeId) → IsTrue (is_allocated a.key)
      → whole_with a id ≡ Some (ArrayOf (type_of g.table id.0) (Some (elements_of a.key a.bytes (size_below (extent_in g.table (type_of g.table id.0))))))
  array_of a id h =
      ap (λ (b : Bool). Some (cond b (ArrayOf (type_of g.table id.0) (Some (elements_of a.key a.bytes (size_below (extent_in g.table (type_of g.table id.0)))))) (type_of g.table id.0))) h

  untyped_whole : (a : Instance) → a.ty ≡ None → whole_of g.table a ≡ None
  untyped_whole a e = ap (typed_whole g.table a) e

  typed_shape : (content : Content) (a : Instance) (id : TypeId) (n : ℕ) (whole : Option Ctype) → whole ≡ Some (ArrayOf (type_of g.table id.0) (Some n)) → IsSome (extent_in g.table (type_of g.table id.0))
      → Takes id content → HasShape g.table content None → HasShape g.table content whole
  typed_shape FunctionContent a id n whole is complete takes shape = absurd shape
  typed_shape Blob a id n whole is complete takes shape =
      inr (ArrayOf (type_of g.table id.0) (Some n), is, repeated_some g.table grounds.made n (extent_in g.table (type_of g.table id.0)) complete)
  typed_shape (Scalar number) a id n whole is complete takes (t, none, rest, more) = absurd (none_some none)
  typed_shape (Scalars number) a id n whole is complete takes (t, k, none, rest, more) = absurd (none_some none)
  typed_shape (Typed other) a id n whole is complete takes (none, more) = absurd (none_some none)
  typed_shape (Elements other) a id n whole is complete takes (shape, more) = (inr (n, is ∙ ap (λ (t : Ctype). Some (ArrayOf t (Some n))) takes), more)

  in_typed : (n : ℕ) (t : Ctype) (whole : Option Ctype) (most : ℕ) (path : List PathStep) → whole ≡ Some (ArrayOf t (Some n)) → IsInTree g.table None most path → IsInTree g.table whole most path
  in_typed n t whole most path is e =
      subst (λ (w : Option Ctype). IsInTree g.table w most path) (sym is) (subst (λ (p : List PathStep). IsInTree g.table (Some (ArrayOf t (Some n))) most p) (sym e.1) refl)

  -- an allocated instance without a type gets one
  pub typed_in : (memory : List Instance) (a : Instance) (id : TypeId) → a.ty ≡ None → IsTrue (is_allocated a.key) → IsSome (extent_in g.table (type_of g.table id.0)) → (h : InstanceIn g memory a)
      → Takes id h.location.content → GoesOn g a (record a { ty = Some id }) × InstanceIn g memory (record a { ty = Some id })
  typed_in memory a id none heap complete h takes =
      let n = elements_of a.key a.bytes (size_below (extent_in g.table (type_of g.table id.0))) in
      let array = array_of a id heap in
      let before = untyped_whole a none in (
        record {
          key = refl;
          in_tree = λ p x. in_typed n (type_of g.table id.0) (whole_with a id) (room a) p array (subst (λ (w : Option Ctype). IsInTree g.table w (room a) p) before x);
          whole = λ t x. absurd (none_some (sym before ∙ x));
        },
        record {
          first = h.first;
          location = h.location;
          first_is = h.first_is;
          location_is = h.location_is;
          shape = typed_shape h.location.content a id n (whole_with a id) array complete takes (subst (HasShape g.table h.location.content) before h.shape);
          untyped = λ e. absurd (some_none e);
          further = λ f. absurd (heap_plain a.key heap f);
          cells = each_change (λ p c. CellIn g memory (cell_row g.table a h.location.content h.first p) c) (λ p c. CellIn g memory (cell_row g.table (record a { ty = Some id }) h.location.content h.first p) c) a.cells
              (λ p c x. cell_from_none g memory (cell_row g.table (record a { ty = Some id }) h.location.content h.first p) c
              (subst (λ (o : Option Reached). CellIn g memory (pointer_row (object_row h.location.content h.first) o) c)
              (ap (λ (w : Option Ctype). part_at g.table (whole_part w) p) before ∙ nowhere g.table p)
              (own_out g memory a h.location.content h.first (heap_plain a.key heap) p c x))) h.cells;
        },
      )

  pub type_law : (memory : List Instance) (i : ℕ) (id : TypeId) → MemoryIn g memory → IsSome (extent_in g.table (type_of g.table id.0))
      → ((a : Instance) → slice_get memory i ≡ Some a → (a.ty ≡ None) × IsTrue (is_allocated a.key))
      → ((a : Instance) → slice_get memory i ≡ Some a → (h : InstanceIn g memory a) → Takes id h.location.content)
      → Leaves g memory (changed memory i (slice_get memory i) (λ inst. record inst { ty = Some id }))
  type_law memory i id all complete untyped takes =
      change_law memory i (λ inst. record inst { ty = Some id }) all
      (λ a e h. (let u = untyped a e in typed_in memory a id u.0 u.1 complete h (takes a e h)))

  -- what is put into an instance: each part is covered where it stands
  abbrev pub PartsIn : List Instance → (ℕ → ℕ) → Option Reached → List (List PathStep × CellList) → Type 0
  PartsIn memory row whole [] = Unit {0}
  PartsIn memory row whole (part ∷ rest) = CellsIn g memory row (part_at g.table whole part.0) part.1 × PartsIn memory row whole rest

  pub puts_in : (memory : List Instance) (row : ℕ → ℕ) (whole : Option Reached) (marked : Bool) (t : Option Ctype) (parts : List (List PathStep × CellList)) (cells : CellList)
      → PartsIn memory row whole parts → CellsIn g memory row whole cells → CellsIn g memory row whole (put_all g.table marked t parts cells)
  puts_in memory row whole marked t [] cells h c = c
  puts_in memory row whole marked t (part ∷ rest) cells h c =
      puts_in memory row whole marked t rest (put g.table marked t part.0 part.1 cells) h.1
      (put_each g.table (λ p c. CellIn g memory (pointer_row row (part_at g.table whole p)) c) marked t part.0 part.1 cells (λ p. tt)
      (each_change (λ p c. CellIn g memory (pointer_row row (part_at g.table (part_at g.table whole part.0) p)) c) (λ p c. CellIn g memory (pointer_row row (part_at g.table whole (part.0 ++ p))) c) part.1
      (λ p c x. subst (λ (o : Option Reached). CellIn g memory (pointer_row row o) c) (sym (part_along g.table whole part.0 p)) x) h.0) c)

  puts_own : (memory : List Instance) (a : Instance) (h : InstanceIn g memory a) (parts : List (List PathStep × CellList))
      → PartsIn memory (object_row h.location.content h.first) (whole_part (whole_of g.table a)) parts → (cells : CellList)
      → EachCell (λ p c. CellIn g memory (cell_row g.table a h.location.content h.first p) c) cells
      → EachCell (λ p c. CellIn g memory (cell_row g.table a h.location.content h.first p) c) (put_all g.table a.zero (whole_of g.table a) parts cells)
  puts_own memory a h [] each cells c = c
  puts_own memory a h (part ∷ rest) each cells c =
      puts_own memory a h rest each.1 (put g.table a.zero (whole_of g.table a) part.0 part.1 cells)
      (put_each g.table (λ p c. CellIn g memory (cell_row g.table a h.location.content h.first p) c) a.zero (whole_of g.table a) part.0 part.1 cells (λ p. tt)
      (each_change (λ p c. CellIn g memory (pointer_row (object_row h.location.content h.first) (part_at g.table (part_at g.table (whole_part (whole_of g.table a)) part.0) p)) c)
      (λ p c. CellIn g memory (cell_row g.table a h.location.content h.first (part.0 ++ p)) c) part.1
      (λ p c x. own_in g memory a h.location.content h.first (λ f. (h.further f).0) (part.0 ++ p) c
      (subst (λ (o : Option Reached). CellIn g memory (pointer_row (object_row h.location.content h.first) o) c) (sym (part_along g.table (whole_part (whole_of g.table a)) part.0 p)) x)) each.0) c)

  -- an instance into which parts are put
  pub parts_own : (memory : List Instance) (a : Instance) (h : InstanceIn g memory a) (parts : List (List PathStep × CellList))
      → PartsIn memory (object_row h.location.content h.first) (whole_part (whole_of g.table a)) parts
      → InstanceIn g memory (record a { cells = put_all g.table a.zero (whole_of g.table a) parts a.cells })
  parts_own memory a h parts each =
      with_own g system grounds memory a h (put_all g.table a.zero (whole_of g.table a) parts a.cells) (puts_own memory a h parts each a.cells h.cells)

  -- Parts are put into an instance.
  pub parts_law : (memory : List Instance) (i : ℕ) (parts : List (List PathStep × CellList)) → MemoryIn g memory
      → ((a : Instance) → slice_get memory i ≡ Some a → (h : InstanceIn g memory a) → PartsIn memory (object_row h.location.content h.first) (whole_part (whole_of g.table a)) parts)
      → Leaves g memory (changed memory i (slice_get memory i) (with_parts g.table parts))
  parts_law memory i parts all each =
      change_law memory i (with_parts g.table parts) all
      (λ a e h. (
        record { key = refl; in_tree = λ p x. x; whole = λ t x. x },
        parts_own memory a h parts (each a e h),
      ))
