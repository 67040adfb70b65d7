-- The library's objects that point into others are covered.
use Rattle.std.proofs.Common.{arith, ◌≡◌, ◌∙◌, ℕ, ◌+◌, Bool, true, false, cond, List, [], ◌∷◌, ◌++◌, length, Option, Some, None, Contains, slice_get, refl, sym, ap, subst}
use Rattle.std.specs.Option.{option_map}
use Rattle.std.proofs.lemmas.List.Elements.{Contains-append_left, Contains-append_right}
use Rattle.c_types.specs.declared.key.ObjectKey.TheVariants.{Library as LibraryKey}
use Rattle.c_types.specs.declared.term.PathStep.TheVariants.{Index}
use Rattle.c_types.specs.Trees.{Ctype, VoidType, BoolType, IntegerType, FloatingType, VaListType, PointerTo, ArrayOf, FunctionFrom, StructureOf, UnionOf}
use Rattle.type_rules.specs.Kinds.{IsScalar}
use Rattle.core_tree.specs.declared.node.Program.{Program}
use Rattle.sol_model.specs.declared.system.System.{System}
use Rattle.sol_model.specs.declared.system.Constraint.TheVariants.{Address as AddressForm}
use Rattle.sol_model.specs.Families.{Family, Has}
use Rattle.obj_made.specs.declared.object.Content.{Content}
use Rattle.obj_made.specs.declared.object.Content.TheVariants.{Blob, Scalar, Scalars}
use Rattle.obj_space.specs.declared.location.Location.{Location}
use Rattle.obj_space.specs.Objects.{LibraryRow, library_rows}
use Rattle.obj_space.specs.Parts.{type_number}
use Rattle.obj_space.specs.Space.{locations_in}
use Rattle.obj_space.specs.Spots.{node_in}
use Rattle.obj_space.specs.View.{SpaceView, first_from, view_of}
use Rattle.ref_cells.specs.declared.cells.Cell.TheVariants.{Pointer}
use Rattle.ref_cells.specs.declared.instance.Instance.{Instance}
use Rattle.ref_cells.specs.Wholes.{whole_of}
use Rattle.ref_elements.specs.Objects.{object_from}
use Rattle.ref_start.specs.Objects.{points_to, pointed, library_pointed, objects_after, static_objects}
use Rattle.normal_form.specs.SystemOf.{held_by, library_pair, library_constraints, by_library}
use Rattle.covering_laws.specs.covered_memory.Spots.{spot_at, spot_from, spot, whole_part, room, IsInTree}
use Rattle.covering_laws.specs.covered_memory.Covered.{CellIn, pointer_row, object_row, HasShape, InstanceIn, MemoryIn, Leaves}
use Rattle.covering_laws.specs.covered_memory.Demands.{Grounds}
use Rattle.covering_laws.specs.grown_programs.Grown.{with_types}
use Rattle.covering_laws.proofs.covered_memory.Access.{with_cells}
use Rattle.covering_laws.proofs.covered_memory.Changes.{change_law}
use Rattle.covering_laws.proofs.covered_memory.Firsts.{is_first}
use Rattle.covering_laws.proofs.covered_memory.Stays.{same_memory}
use Rattle.covering_laws.proofs.covered_rows.Lists.{first_has}
use Rattle.covering_laws.proofs.covered_rows.Demanded.{satisfied, address_says}
use Rattle.covering_laws.proofs.covered_library.Named.{object_there, blob_named}
use Rattle.covering_laws.proofs.covered_needs.Grounded.{grounds_grow}
use Rattle.covering_laws.proofs.covered_needs.Named.{library_made}
use Rattle.ref_state.specs.ref_types.Types.{library_ids}
use Rattle.covered_runs.specs.machine_sound.covered_start.Objects.{terms_behind, machine_table, machine_trees, machine_sets, IsSolved, ObjectsCovered}
use Rattle.covered_runs.proofs.machine_sound.covered_start.Types.{library_follow}
use Rattle.covered_runs.proofs.machine_sound.covered_start.Objects.{all_in}

some_one : {X : Type 0} → {x y : X} → ◌≡◌ {A = Option X} (Some x) (Some y) → x ≡ y
some_one h = cc

-- a scalar of the number of pointers is one
small_number : (a b c : Bool) → ◌≡◌ {A = ℕ} (cond a 0 (cond b 1 (cond c 2 3))) 4 → ⊥
small_number true b c h = omega arith
small_number false true c h = omega arith
small_number false false true h = omega arith
small_number false false false h = omega arith

pub pointer_scalar : (t : Ctype) → IsScalar t → type_number t ≡ 4 → (to : Ctype) × (t ≡ PointerTo to)
pointer_scalar (PointerTo to) h e = (to, refl)
pointer_scalar BoolType h e = absurd (omega arith)
pointer_scalar (IntegerType size rank signed) h e = absurd (small_number _ _ _ e)
pointer_scalar VoidType h e = absurd (omega arith)
pointer_scalar FloatingType h e = absurd (omega arith)
pointer_scalar VaListType h e = absurd (omega arith)
pointer_scalar (ArrayOf of n) h e = absurd (omega arith)
pointer_scalar (FunctionFrom result parameters form) h e = absurd (omega arith)
pointer_scalar (StructureOf tag) h e = absurd (omega arith)
pointer_scalar (UnionOf tag) h e = absurd (omega arith)

-- what the library's rows say of the objects that point, and of those to which they point
abbrev pub HasContent : ℕ → Content → Type 0
HasContent k content = (row : LibraryRow) → slice_get library_rows k ≡ Some row → row.content ≡ content

input_content : HasContent 3 (Scalar 4)
unfolding library_rows
input_content row e = ap (λ (r : LibraryRow). r.content) (sym (some_one e))

output_content : HasContent 4 (Scalar 4)
unfolding library_rows
output_content row e = ap (λ (r : LibraryRow). r.content) (sym (some_one e))

errors_content : HasContent 5 (Scalar 4)
unfolding library_rows
errors_content row e = ap (λ (r : LibraryRow). r.content) (sym (some_one e))

table_content : HasContent 7 (Scalar 4)
unfolding library_rows
table_content row e = ap (λ (r : LibraryRow). r.content) (sym (some_one e))

pub stream_content : HasContent 2 Blob
unfolding library_rows
stream_content row e = ap (λ (r : LibraryRow). r.content) (sym (some_one e))

classes_content : HasContent 8 (Scalars 1)
unfolding library_rows
classes_content row e = ap (λ (r : LibraryRow). r.content) (sym (some_one e))

module _ (p : Program) (system : System) (family : Family) (s : IsSolved p system family) where
  pub grown : Grounds (machine_table p) (locations_in p) system
  grown = grounds_grow p (terms_behind p) system s.made s.named (library_follow (length p.types.terms)) s.grounds

  -- an object of the library in memory, and where its locations begin
  pub record IsHere (memory : List Instance) (k i : ℕ) : Type 0 where
    pub inst : Instance
    pub there : slice_get memory i ≡ Some inst
    pub key_is : inst.key ≡ LibraryKey k
    pub inside : InstanceIn (machine_sets p family) memory inst
    pub first_is : first_from 0 (locations_in p) (LibraryKey k) ≡ Some inside.first

  pub here : (memory : List Instance) (k i : ℕ) → MemoryIn (machine_sets p family) memory → object_from k 0 memory ≡ Some i → IsHere memory k i
  here memory k i all e =
      let o = object_there k memory i e in
      let inside = all i o.0 o.1 in
      record { inst = o.0; there = o.1; key_is = o.2; inside = inside; first_is = ap (first_from 0 (locations_in p)) (sym o.2) ∙ inside.first_is }

  pub content_at : (k l : ℕ) (x : Location) (content : Content) → HasContent k content → first_from 0 (locations_in p) (LibraryKey k) ≡ Some l → slice_get (locations_in p) l ≡ Some x → x.content ≡ content
  content_at k l x content is first at =
      let own = (is_first (locations_in p) (LibraryKey k) l first).here in
      let same : own.0 ≡ x = some_one (sym own.1 ∙ at) in
      let row = library_made p l x k s.made at (ap (λ (y : Location). y.key) (sym same) ∙ own.2) in
      row.2 ∙ is row.0 row.1

  -- the location of an element, whose instance has it in its tree
  abbrev pub Stands : ℕ → ℕ → Type 0
  Stands k i = (memory : List Instance) (b : ℕ) → MemoryIn (machine_sets p family) memory → object_from k 0 memory ≡ Some b → (inst : Instance) × (l : ℕ) × (slice_get memory b ≡ Some inst) × IsInTree (machine_table p) (whole_of (machine_table p) inst) (room inst) (Index i ∷ [])
      × (spot (machine_table p) (locations_in p) inst.key (Index i ∷ []) ≡ Some l) × (first_from 0 (locations_in p) (LibraryKey k) ≡ Some l)

  stream_stands : Stands 2 0
  stream_stands memory b all e =
      let h = here memory 2 b all e in
      let named = blob_named (machine_sets p family) system grown memory all 2 h.inside.first h.first_is h.inside.location h.inside.location_is (content_at 2 h.inside.first h.inside.location Blob stream_content h.first_is h.inside.location_is) refl b e in
      (named.0, h.inside.first, named.1, named.2, named.3, h.first_is)

  classes_stand : Stands 8 128
  classes_stand memory b all e =
      let h = here memory 8 b all e in
      let content = content_at 8 h.inside.first h.inside.location (Scalars 1) classes_content h.first_is h.inside.location_is in
      let shape : HasShape (machine_table p) (Scalars 1) (whole_of (machine_table p) h.inst) = subst (λ (c : Content). HasShape (machine_table p) c (whole_of (machine_table p) h.inst)) content h.inside.shape in (
        h.inst,
        h.inside.first,
        h.there,
        subst (λ (w : Option Ctype). IsInTree (machine_table p) w (room h.inst) (Index 128 ∷ [])) (sym shape.2) refl,
        ap (λ (f : Option ℕ). spot_from (machine_table p) (locations_in p) f (Index 128 ∷ [])) h.inside.first_is
            ∙ (ap (λ (x : Option Location). spot_at (machine_table p) h.inside.first x (Index 128 ∷ [])) h.inside.location_is
            ∙ (ap (λ (c : Content). option_map (λ (n : ℕ). h.inside.first + n) (node_in (machine_table p) c (Index 128 ∷ []))) content ∙ ap (λ (n : ℕ). Some n) (let z : h.inside.first + 0 ≡ h.inside.first = omega arith in z))),
        h.first_is,
      )

  -- an object may point to another one
  abbrev pub MayPoint : ℕ → ℕ → Type 0
  MayPoint holder held = (row location : ℕ) → first_from 0 (locations_in p) (LibraryKey holder) ≡ Some row → first_from 0 (locations_in p) (LibraryKey held) ≡ Some location → Has family row location

  abbrev pub v : SpaceView
  v = view_of (locations_in p)

  said : (row location : ℕ) → Contains (library_constraints (view_of (locations_in p))) (AddressForm row location) → Has family row location
  said row location h =
      address_says (with_types p (terms_behind p)) (view_of (locations_in p)) system s.is_system family s.closed row location
      (satisfied (with_types p (terms_behind p)) (view_of (locations_in p)) system s.is_system family s.closed (AddressForm row location) (by_library h))

  pair_has : (holder held row location : ℕ) → first_from 0 (locations_in p) (LibraryKey holder) ≡ Some row → first_from 0 (locations_in p) (LibraryKey held) ≡ Some location → Contains (library_pair v holder held) (AddressForm row location)
  pair_has holder held row location a b =
      subst (λ (o : Option ℕ). Contains (held_by o (first_from 0 (locations_in p) (LibraryKey held))) (AddressForm row location)) (sym a)
      (subst (λ (o : Option ℕ). Contains (held_by (Some row) o) (AddressForm row location)) (sym b) (first_has (AddressForm row location) []))

  input_points : MayPoint 3 2
  input_points row location a b =
      said row location (Contains-append_left (library_pair v 3 2 ++ library_pair v 4 2 ++ library_pair v 5 2 ++ library_pair v 7 8) (library_pair v 9 10) (AddressForm row location)
      (Contains-append_left (library_pair v 3 2 ++ library_pair v 4 2 ++ library_pair v 5 2) (library_pair v 7 8) (AddressForm row location)
      (Contains-append_left (library_pair v 3 2 ++ library_pair v 4 2) (library_pair v 5 2) (AddressForm row location)
      (Contains-append_left (library_pair v 3 2) (library_pair v 4 2) (AddressForm row location) (pair_has 3 2 row location a b)))))

  output_points : MayPoint 4 2
  output_points row location a b =
      said row location (Contains-append_left (library_pair v 3 2 ++ library_pair v 4 2 ++ library_pair v 5 2 ++ library_pair v 7 8) (library_pair v 9 10) (AddressForm row location)
      (Contains-append_left (library_pair v 3 2 ++ library_pair v 4 2 ++ library_pair v 5 2) (library_pair v 7 8) (AddressForm row location)
      (Contains-append_left (library_pair v 3 2 ++ library_pair v 4 2) (library_pair v 5 2) (AddressForm row location) (Contains-append_right (library_pair v 3 2) (library_pair v 4 2) (AddressForm row location) (pair_has 4 2 row location a b)))))

  errors_points : MayPoint 5 2
  errors_points row location a b =
      said row location (Contains-append_left (library_pair v 3 2 ++ library_pair v 4 2 ++ library_pair v 5 2 ++ library_pair v 7 8) (library_pair v 9 10) (AddressForm row location)
      (Contains-append_left (library_pair v 3 2 ++ library_pair v 4 2 ++ library_pair v 5 2) (library_pair v 7 8) (AddressForm row location) (Contains-append_right (library_pair v 3 2 ++ library_pair v 4 2) (library_pair v 5 2) (AddressForm row location) (pair_has 5 2 row location a b))))

  table_points : MayPoint 7 8
  table_points row location a b =
      said row location (Contains-append_left (library_pair v 3 2 ++ library_pair v 4 2 ++ library_pair v 5 2 ++ library_pair v 7 8) (library_pair v 9 10) (AddressForm row location) (Contains-append_right (library_pair v 3 2 ++ library_pair v 4 2 ++ library_pair v 5 2) (library_pair v 7 8) (AddressForm row location) (pair_has 7 8 row location a b)))

  -- `<argv>` may point to `<arg>`
  pub list_points : MayPoint 9 10
  list_points row location a b =
      said row location (Contains-append_right (library_pair v 3 2 ++ library_pair v 4 2 ++ library_pair v 5 2 ++ library_pair v 7 8) (library_pair v 9 10) (AddressForm row location) (pair_has 9 10 row location a b))

  module _ (holder held i : ℕ) (may : MayPoint holder held) (holds : HasContent holder (Scalar 4)) (stands : Stands held i) (memory : List Instance) (all : MemoryIn (machine_sets p family) memory) where
    cell_in : (a b : ℕ) (x : Instance) → object_from holder 0 memory ≡ Some a → object_from held 0 memory ≡ Some b → slice_get memory a ≡ Some x → (h : InstanceIn (machine_sets p family) memory x)
        → CellIn (machine_sets p family) memory (pointer_row (object_row h.location.content h.first) (whole_part (whole_of (machine_table p) x))) (Pointer b (Index i ∷ []) false)
    cell_in a b x ea eb at h =
        let own = here memory holder a all ea in
        let same : own.inst ≡ x = some_one (sym own.there ∙ at) in
        let key : x.key ≡ LibraryKey holder = ap (λ (y : Instance). y.key) (sym same) ∙ own.key_is in
        let first : first_from 0 (locations_in p) (LibraryKey holder) ≡ Some h.first = ap (first_from 0 (locations_in p)) (sym key) ∙ h.first_is in
        let content = content_at holder h.first h.location (Scalar 4) holds first h.location_is in
        let shape : HasShape (machine_table p) (Scalar 4) (whole_of (machine_table p) x) = subst (λ (c : Content). HasShape (machine_table p) c (whole_of (machine_table p) x)) content h.shape in
        let pointer = pointer_scalar shape.0 shape.2 shape.3 in
        let to = stands memory b all eb in
        let row : object_row h.location.content h.first 0 ≡ h.first = ap (λ (c : Content). object_row c h.first 0) content ∙ (let z : h.first + 0 ≡ h.first = omega arith in z) in
        record {
          inst = to.0;
          inst_is = to.2;
          in_tree = to.3;
          lands = record {
            at = object_row h.location.content h.first 0;
            location = to.1;
            row_is = ap (λ (w : Option Ctype). pointer_row (object_row h.location.content h.first) (whole_part w)) (shape.1 ∙ ap (λ (t : Ctype). Some t) pointer.1);
            found_is = to.4;
            has = subst (λ (k : ℕ). Has family k to.1) (sym row) (may h.first to.1 first to.5);
          };
        }

    nothing : Leaves (machine_sets p family) memory memory
    nothing = record { extends = same_memory (machine_sets p family) memory; covered = all }

    by : (a : Option ℕ) → object_from holder 0 memory ≡ a → (b : Option ℕ) → object_from held 0 memory ≡ b → Leaves (machine_sets p family) memory (points_to a b i memory)
    by (Some a) ea (Some b) eb =
        change_law (machine_sets p family) system grown memory a (λ inst. record inst { cells = ([], Pointer b (Index i ∷ []) false) ∷ [] }) all
        (λ x at h. (
          record { key = refl; in_tree = λ path y. y; whole = λ t y. y },
          with_cells (machine_sets p family) system grown memory x h (([], Pointer b (Index i ∷ []) false) ∷ []) (cell_in a b x ea eb at h, tt),
        ))
    by (Some a) ea None eb = nothing
    by None ea (Some b) eb = nothing
    by None ea None eb = nothing

    pub pointed_law : Leaves (machine_sets p family) memory (pointed holder held i memory)
    pointed_law = by (object_from holder 0 memory) refl (object_from held 0 memory) refl

  pub library_in : (memory : List Instance) → MemoryIn (machine_sets p family) memory → MemoryIn (machine_sets p family) (library_pointed memory)
  library_in memory all =
      let one = (pointed_law 3 2 0 input_points input_content stream_stands memory all).covered in
      let two = (pointed_law 4 2 0 output_points output_content stream_stands (pointed 3 2 0 memory) one).covered in
      let three = (pointed_law 5 2 0 errors_points errors_content stream_stands (pointed 4 2 0 (pointed 3 2 0 memory)) two).covered in
      (pointed_law 7 8 128 table_points table_content classes_stand (pointed 5 2 0 (pointed 4 2 0 (pointed 3 2 0 memory))) three).covered

pub objects_covered : ObjectsCovered
unfolding static_objects
objects_covered p system family s =
    library_in p system family s (objects_after (machine_trees p) (library_ids (length p.types.terms)) None (locations_in p)) (all_in p s.made s.named family)
