-- Objects of locations, one after another, and that their types are the table's.
use Rattle.std.proofs.Common.{arith, ◌≡◌, ℕ, ◌+◌, ◌<◌, ◌≤◌, List, [], ◌∷◌, ◌++◌, length, Option, Some, None, Bool, true, false, IfSome, All, drop, slice_get, refl, ap, sym, subst, ◌∙◌, append_assoc}
use Rattle.std.specs.List.{cons_option}
use Rattle.std.proofs.lemmas.List.{append-nil}
use Rattle.std.proofs.lemmas.List.Elements.{All-nil, All-cons, All-set, All-get_or, All-from_recursion}
use Rattle.std.proofs.lemmas.Option.{slice_get_within, get_or_from_slice_get}
use Rattle.std.proofs.Math.ListN.{drop_of_length-le}
use Rattle.c_types.specs.declared.key.ObjectKey.{ObjectKey}
use Rattle.c_types.specs.declared.key.ObjectKey.TheVariants.{Entity as EntityKey, Text as TextKey, Library as LibraryKey}
use Rattle.c_types.specs.declared.term.TypeId.{TypeId}
use Rattle.core_tree.specs.declared.node.Node.{Node}
use Rattle.core_tree.specs.declared.node.NodeKind.{NodeKind}
use Rattle.core_tree.specs.declared.node.NodeKind.TheVariants.{Text}
use Rattle.core_tree.specs.declared.node.Entity.{Entity}
use Rattle.core_tree.specs.Range.{InRange}
use Rattle.core_tree.specs.Typed.{CoreTrees}
use Rattle.obj_space.specs.declared.location.Location.{Location}
use Rattle.ref_cells.specs.declared.instance.Instance.{Instance}
use Rattle.ref_cells.specs.Places.{IsKnown, AreKnown}
use Rattle.ref_mem.specs.Writes.{changed}
use Rattle.ref_elements.specs.Objects.{object_from}
use Rattle.ref_frames.proofs.Arguments.{drop_next}
use Rattle.ref_state.specs.declared.ref_types.types.LibraryTypes.{LibraryTypes}
use Rattle.ref_state.specs.ref_types.Types.{type_in, library_ids}
use Rattle.ref_cells.specs.declared.cells.Cell.TheVariants.{Pointer}
use Rattle.c_types.specs.declared.term.PathStep.TheVariants.{Index}
use Rattle.std.proofs.Common.{◌==◌, lit≤}
use Rattle.std.specs.Prelude.{if◌then◌else◌}
use Rattle.ref_start.specs.Objects.{object_types, object_with, is_static, entity_object, literal_by, literal_object, object_of, is_new, object_at, objects_after, points_to, pointed, static_objects}

-- the types of the library's objects are among the terms that stand behind those of a program
pub library_known : (n terms : ℕ) → n + 7 < terms → All (IsKnown terms) (object_types (library_ids n))
library_known n terms lt =
    let at : (k : ℕ) → k ≤ 7 → n + k < terms = λ k le. omega (arith, lt, le) in
    All-from_recursion (IsKnown terms) (object_types (library_ids n))
    (at 2 (lit≤ tt), (at 2 (lit≤ tt), (tt, (at 5 (lit≤ tt), (at 5 (lit≤ tt), (at 5 (lit≤ tt), (at 7 (lit≤ tt), (at 5 (lit≤ tt), (at 4 (lit≤ tt), (at 6 (lit≤ tt), (at 1 (lit≤ tt), tt)))))))))))

one_before : (o : Option Instance) (rest : List Instance) → cons_option o [] ++ rest ≡ cons_option o rest
one_before None rest = refl
one_before (Some inst) rest = refl

pub objects_next : (u : CoreTrees) (ids : LibraryTypes) (before : Option ObjectKey) (space : List Location) (l : ℕ) (x : Location) (list all : List Instance)
    → slice_get space l ≡ Some x
    → list ++ objects_after u ids before (drop l space) ≡ all
    → (list ++ cons_option (object_at u ids before x.key) []) ++ objects_after u ids (Some x.key) (drop (l + 1) space) ≡ all
objects_next u ids before space l x list all at h =
    let rest = objects_after u ids (Some x.key) (drop (l + 1) space) in
    append_assoc list (cons_option (object_at u ids before x.key) []) rest
    ∙ (ap (λ (xs : List Instance). list ++ xs) (one_before (object_at u ids before x.key) rest)
    ∙ (sym (ap (λ (xs : List Location). list ++ objects_after u ids before xs) (drop_next space l x at)) ∙ h))

pub objects_end : (u : CoreTrees) (ids : LibraryTypes) (before : Option ObjectKey) (space : List Location) (l : ℕ) (list all : List Instance)
    → length space ≤ l → list ++ objects_after u ids before (drop l space) ≡ all → list ≡ all
objects_end u ids before space l list all past h =
    sym (append-nil list)
    ∙ (sym (ap (λ (xs : List Location). list ++ objects_after u ids before xs) (drop_of_length-le space past)) ∙ h)

pub known_at : (n : ℕ) (memory : List Instance) (i : ℕ) (inst : Instance) → AreKnown n memory → slice_get memory i ≡ Some inst → IsKnown n inst.ty
known_at n memory i inst known at =
    subst (λ (x : Instance). IsKnown n x.ty) (get_or_from_slice_get memory i inst inst at)
    (All-get_or (λ (x : Instance). IsKnown n x.ty) memory i inst (slice_get_within memory i inst at) known)

pub changed_known : (n : ℕ) (memory : List Instance) (i : ℕ) (change : Instance → Instance) → ((inst : Instance) → (change inst).ty ≡ inst.ty)
    → AreKnown n memory → (o : Option Instance) → o ≡ slice_get memory i → AreKnown n (changed memory i o change)
changed_known n memory i change same known None e = known
changed_known n memory i change same known (Some inst) e =
    All-set (λ (x : Instance). IsKnown n x.ty) memory i (change inst)
    (subst (IsKnown n) (sym (same inst)) (known_at n memory i inst known (sym e))) known

module _ (u : CoreTrees) (ids : LibraryTypes) (range : InRange u) (library : All (IsKnown (length u.types.terms)) (object_types ids)) where
  abbrev Known : Instance → Type 0
  Known inst = IsKnown (length u.types.terms) inst.ty

  static_known : (e : ℕ) (entity : Entity) → slice_get u.entities e ≡ Some entity → (b : Bool)
      → IfSome (if b then Some (object_with (EntityKey e) (Some entity.ty) []) else None) Known
  static_known e entity there true = range.entity_types e entity there
  static_known e entity there false = tt

  entity_known : (e : ℕ) (o : Option Entity) → slice_get u.entities e ≡ o → IfSome (entity_object (EntityKey e) o) Known
  entity_known e None there = tt
  entity_known e (Some entity) there = static_known e entity there (is_static entity.storage)

  kind_known : (n : ℕ) (node : Node) → slice_get u.nodes n ≡ Some node → (kind : NodeKind) → IfSome (literal_by (TextKey n) node.ty kind) Known
  kind_known n node there (Text bytes) = range.types n node there
  kind_known n node there kind = tt

  literal_known : (n : ℕ) (o : Option Node) → slice_get u.nodes n ≡ o → IfSome (literal_object (TextKey n) o) Known
  literal_known n None there = tt
  literal_known n (Some node) there = kind_known n node there node.kind

  type_known : (position : ℕ) (o : Option (Option TypeId)) → slice_get (object_types ids) position ≡ o → IsKnown (length u.types.terms) (type_in o)
  type_known position None there = tt
  type_known position (Some ty) there =
      subst (IsKnown (length u.types.terms)) (get_or_from_slice_get (object_types ids) position ty ty there)
      (All-get_or (IsKnown (length u.types.terms)) (object_types ids) position ty (slice_get_within (object_types ids) position ty there) library)

  position_known : (position : ℕ) (b : Bool)
      → IfSome (if b then None else Some (object_with (LibraryKey position) (type_in (slice_get (object_types ids) position)) [])) Known
  position_known position true = tt
  position_known position false = type_known position (slice_get (object_types ids) position) refl

  object_known : (key : ObjectKey) → IfSome (object_of u ids key) Known
  object_known (EntityKey e) = entity_known e (slice_get u.entities e) refl
  object_known (TextKey n) = literal_known n (slice_get u.nodes n) refl
  object_known (LibraryKey position) = position_known position (position == 10)
  object_known key = tt

  new_known : (key : ObjectKey) (b : Bool) → IfSome (if b then object_of u ids key else None) Known
  new_known key true = object_known key
  new_known key false = tt

  one_known : (o : Option Instance) (rest : List Instance) → IfSome o Known → All Known rest → All Known (cons_option o rest)
  one_known None rest h known = known
  one_known (Some inst) rest h known = All-cons Known inst rest h known

  objects_known : (before : Option ObjectKey) (space : List Location) → All Known (objects_after u ids before space)
  objects_known before [] = All-nil Known
  objects_known before (x ∷ rest) =
      one_known (object_at u ids before x.key) (objects_after u ids (Some x.key) rest) (new_known x.key (is_new before x.key)) (objects_known (Some x.key) rest)

  points_known : (memory : List Instance) (from to : Option ℕ) (i : ℕ) → All Known memory → All Known (points_to from to i memory)
  points_known memory (Some from) (Some to) i known =
      changed_known (length u.types.terms) memory from (λ inst. record inst { cells = ([], Pointer to (Index i ∷ []) false) ∷ [] }) (λ inst. refl) known (slice_get memory from) refl
  points_known memory None to i known = known
  points_known memory (Some from) None i known = known

  pointed_known : (from to i : ℕ) (memory : List Instance) → All Known memory → All Known (pointed from to i memory)
  pointed_known from to i memory known = points_known memory (object_from from 0 memory) (object_from to 0 memory) i known

  pub statics_known : (space : List Location) → AreKnown (length u.types.terms) (static_objects u space ids)
  unfolding static_objects
  statics_known space =
      pointed_known 7 8 128 _ (pointed_known 5 2 0 _ (pointed_known 4 2 0 _ (pointed_known 3 2 0 (objects_after u ids None space) (objects_known None space))))
