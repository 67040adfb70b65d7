-- Only the stream among the objects of the start is without a type.
use Rattle.std.proofs.Common.{◌≡◌, ◌∙◌, inl, inr, ◌⊎◌, ℕ, zero, suc, ◌==◌, eqb-true, false, List, [], ◌∷◌, set, length, Option, Some, None, IsTrue, slice_get, refl, sym, ap, subst}
use Rattle.std.proofs.lemmas.Bool.{false≢true}
use Rattle.c_types.specs.declared.key.ObjectKey.{ObjectKey}
use Rattle.c_types.specs.declared.key.ObjectKey.TheVariants.{Entity as EntityKey, Text as TextKey, Call as CallKey, Library as LibraryKey, Star as StarKey, Function as FunctionKey}
use Rattle.c_types.specs.declared.key.ObjectKey.TheVariants.{Varargs as VarargsKey, Outside as OutsideKey}
use Rattle.c_types.specs.declared.term.TypeId.{TypeId}
use Rattle.c_types.specs.Table.{Table}
use Rattle.c_types.specs.Made.{IsMade}
use Rattle.core_tree.specs.declared.node.Program.{Program}
use Rattle.core_tree.specs.Typed.{CoreTrees}
use Rattle.obj_made.specs.declared.object.Content.{Content}
use Rattle.obj_made.specs.declared.object.Content.TheVariants.{Blob}
use Rattle.obj_space.specs.declared.location.Location.{Location}
use Rattle.obj_space.specs.Space.{locations_in}
use Rattle.obj_space.specs.View.{first_from}
use Rattle.ref_cells.specs.declared.cells.Cell.TheVariants.{Pointer}
use Rattle.c_types.specs.declared.term.PathStep.TheVariants.{Index}
use Rattle.ref_cells.specs.declared.instance.Instance.{Instance}
use Rattle.ref_cells.specs.Wholes.{is_allocated}
use Rattle.ref_mem.specs.Writes.{changed}
use Rattle.ref_elements.specs.Objects.{object_from}
use Rattle.ref_state.specs.declared.ref_types.types.LibraryTypes.{LibraryTypes}
use Rattle.ref_state.specs.ref_types.Types.{type_in, library_ids}
use Rattle.ref_start.specs.Objects.{object_types, object_of, objects_after, points_to, pointed, library_pointed, static_objects}
use Rattle.covering_laws.specs.covered_memory.Spots.{IsFurther}
use Rattle.covering_laws.specs.covered_library.Calls.{Takes}
use Rattle.covering_laws.proofs.covered_memory.Firsts.{is_first}
use Rattle.covering_laws.proofs.covered_needs.Named.{library_made}
use Rattle.covered_runs.specs.machine_sound.covered_start.Objects.{machine_table, machine_trees, objects_at_start, ObjectsTake}
use Rattle.covered_runs.proofs.machine_sound.covered_start.Objects.{from_objects, entity_one, text_one, library_one}
use Rattle.covered_runs.proofs.machine_sound.covered_start.Pointed.{stream_content}

some_one : {X : Type 0} → {x y : X} → ◌≡◌ {A = Option X} (Some x) (Some y) → x ≡ y
some_one h = cc

none_some : {X : Type 0} → {x : X} → ◌≡◌ {A = Option X} None (Some x) → ⊥
none_some h = cc

-- an object of the program's text or of the library
abbrev pub IsStaticKey : ObjectKey → Type 0
IsStaticKey (EntityKey e) = Unit {0}
IsStaticKey (TextKey n) = Unit {0}
IsStaticKey (LibraryKey k) = Unit {0}
IsStaticKey key = ⊥

abbrev pub AllStatic : List Instance → Type 0
AllStatic memory = (i : ℕ) (inst : Instance) → slice_get memory i ≡ Some inst → IsStaticKey inst.key

static_key : (u : CoreTrees) (ids : LibraryTypes) (key : ObjectKey) (inst : Instance) → object_of u ids key ≡ Some inst → IsStaticKey inst.key
static_key u ids (EntityKey e) inst h = subst IsStaticKey (sym (entity_one (EntityKey e) inst (slice_get u.entities e) h).3.key_is) tt
static_key u ids (TextKey n) inst h = subst IsStaticKey (sym (text_one (TextKey n) inst (slice_get u.nodes n) h).2.key_is) tt
static_key u ids (LibraryKey k) inst h = subst IsStaticKey (sym (library_one k (type_in (slice_get (object_types ids) k)) inst (k == 10) h).1.key_is) tt
static_key u ids (CallKey n) inst h = absurd (none_some h)
static_key u ids (StarKey k) inst h = absurd (none_some h)
static_key u ids (VarargsKey k) inst h = absurd (none_some h)
static_key u ids (FunctionKey k) inst h = absurd (none_some h)
static_key u ids OutsideKey inst h = absurd (none_some h)

set_static : (xs : List Instance) (i : ℕ) (v : Instance) → IsStaticKey v.key → AllStatic xs → AllStatic (set xs i v)
set_static [] i v k h j inst e = absurd (none_some e)
set_static (x ∷ xs) zero v k h zero inst e = subst (λ (y : Instance). IsStaticKey y.key) (some_one e) k
set_static (x ∷ xs) zero v k h (suc j) inst e = h (suc j) inst e
set_static (x ∷ xs) (suc i) v k h zero inst e = h 0 inst e
set_static (x ∷ xs) (suc i) v k h (suc j) inst e = set_static xs i v k (λ m y f. h (suc m) y f) j inst e

changed_static : (memory : List Instance) (i : ℕ) (change : Instance → Instance) → ((a : Instance) → (change a).key ≡ a.key) → AllStatic memory → (o : Option Instance) → slice_get memory i ≡ o → AllStatic (changed memory i o change)
changed_static memory i change same h None e = h
changed_static memory i change same h (Some a) e = set_static memory i (change a) (subst IsStaticKey (sym (same a)) (h i a e)) h

pointed_static : (from to i : ℕ) (memory : List Instance) → AllStatic memory → AllStatic (pointed from to i memory)
pointed_static from to i memory h = by (object_from from 0 memory) (object_from to 0 memory)
  where
    by : (a b : Option ℕ) → AllStatic (points_to a b i memory)
    by (Some a) (Some b) = changed_static memory a (λ inst. record inst { cells = ([], Pointer b (Index i ∷ []) false) ∷ [] }) (λ x. refl) h (slice_get memory a) refl
    by (Some a) None = h
    by None (Some b) = h
    by None None = h

pub library_static : (memory : List Instance) → AllStatic memory → AllStatic (library_pointed memory)
library_static memory h =
    pointed_static 7 8 128 (pointed 5 2 0 (pointed 4 2 0 (pointed 3 2 0 memory)))
    (pointed_static 5 2 0 (pointed 4 2 0 (pointed 3 2 0 memory)) (pointed_static 4 2 0 (pointed 3 2 0 memory) (pointed_static 3 2 0 memory h)))

objects_static : (u : CoreTrees) (ids : LibraryTypes) (space : List Location) → AllStatic (objects_after u ids None space)
objects_static u ids space i inst e = (let f = from_objects u ids None space inst i e in static_key u ids f.1.key inst f.3)

pub start_static : (p : Program) → AllStatic (objects_at_start p)
unfolding static_objects
start_static p =
    library_static (objects_after (machine_trees p) (library_ids (length p.types.terms)) None (locations_in p)) (objects_static (machine_trees p) (library_ids (length p.types.terms)) (locations_in p))

-- the stream is the one that is allocated, and nothing is passed past parameters yet
by_allocated : (key : ObjectKey) → IsStaticKey key → IsTrue (is_allocated key) → key ≡ LibraryKey 2
by_allocated (LibraryKey k) s h = ap (λ (j : ℕ). LibraryKey j) (eqb-true k 2 h)
by_allocated (EntityKey e) s h = absurd (false≢true h)
by_allocated (TextKey n) s h = absurd (false≢true h)
by_allocated (CallKey n) s h = absurd s
by_allocated (StarKey k) s h = absurd s
by_allocated (VarargsKey k) s h = absurd s
by_allocated (FunctionKey k) s h = absurd s
by_allocated OutsideKey s h = absurd s

pub allocated_stream : (key : ObjectKey) → IsStaticKey key → IsTrue (is_allocated key) ⊎ IsFurther key → key ≡ LibraryKey 2
allocated_stream key s (inl h) = by_allocated key s h
allocated_stream (VarargsKey k) s (inr h) = absurd s
allocated_stream key s (inr h) = absurd h

pub blob_takes : (table : Table) (id : TypeId) (content : Content) → content ≡ Blob → Takes table id content
blob_takes table id content is = subst (Takes table id) (sym is) tt

pub stream_blob : (p : Program) → IsMade p.types → (key : ObjectKey) → key ≡ LibraryKey 2 → (l : ℕ) (x : Location) → first_from 0 (locations_in p) key ≡ Some l → slice_get (locations_in p) l ≡ Some x → x.content ≡ Blob
stream_blob p made key is l x first at =
    let own = (is_first (locations_in p) key l first).here in
    let same : own.0 ≡ x = some_one (sym own.1 ∙ at) in
    let row = library_made p l x 2 made at (ap (λ (y : Location). y.key) (sym same) ∙ (own.2 ∙ is)) in
    row.2 ∙ stream_content row.0 row.1

pub objects_take : ObjectsTake
objects_take p family made i inst id at none h =
    blob_takes (machine_table p) id h.location.content
    (stream_blob p made inst.key (allocated_stream inst.key (start_static p i inst at) (h.untyped none)) h.first h.location h.first_is h.location_is)
