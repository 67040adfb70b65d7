-- The rows of places: what they give is covered at their nodes.
use Rattle.std.proofs.Common.{arith, ◌≡◌, ◌∙◌, inl, inr, ℕ, ◌+◌, ◌-◌, suc, Bool, true, false, cond, List, [], ◌∷◌, ◌++◌, Option, Some, None, Ok, Err, IsSome, nat_lt, slice_get, refl, sym, ap, subst}
use Rattle.std.specs.Option.{option_map, option_map_or}
use Rattle.std.proofs.lemmas.Bool.{false≢true}
use Rattle.std.proofs.lemmas.Bool.Decides.{nat_tests}
use Rattle.c_types.specs.declared.key.ObjectKey.{ObjectKey}
use Rattle.c_types.specs.declared.key.ObjectKey.TheVariants.{Entity as EntityKey, Library as LibraryKey, Function as FunctionKey, Varargs as VarargsKey}
use Rattle.c_types.specs.declared.term.PathStep.{PathStep}
use Rattle.c_types.specs.declared.term.PathStep.TheVariants.{Index}
use Rattle.c_types.specs.declared.term.TypeId.{TypeId}
use Rattle.c_types.specs.Trees.{Ctype}
use Rattle.lib_summaries.specs.Table.{summary_of}
use Rattle.core_tree.specs.declared.node.Entity.{Entity}
use Rattle.core_tree.specs.declared.node.Linkage.{Linkage}
use Rattle.core_tree.specs.declared.node.Linkage.TheVariants.{External, Internal, Local}
use Rattle.core_tree.specs.declared.node.Node.{Node}
use Rattle.core_tree.specs.declared.node.Storage.TheVariants.{Static, Automatic}
use Rattle.core_tree.specs.Typed.{NoNode, sort_in, sort_at}
use Rattle.core_tree.specs.Valid.{IsLasting}
use Rattle.obj_space.specs.Found.{same_object}
use Rattle.obj_space.specs.Spots.{Reached, reached, part_at}
use Rattle.obj_space.proofs.Indexed.{same_is}
use Rattle.row_numbers.specs.Objects.{is_open, library_number, library_key, entity_key}
use Rattle.ref_cells.specs.declared.cells.Reason.TheVariants.{Mismatch}
use Rattle.ref_cells.specs.declared.cells.Cell.{Cell}
use Rattle.ref_cells.specs.declared.cells.Cell.TheVariants.{Unset, Number, Null, Pointer, Function}
use Rattle.ref_cells.specs.declared.instance.Instance.{Instance}
use Rattle.ref_cells.specs.Wholes.{is_allocated, typed_whole, whole_of}
use Rattle.ref_places.specs.Parts.{along, whole_in, type_there}
use Rattle.ref_places.specs.Places.{has_key, own_instance, first_instance, either_instance, instance_of, whole_place, first_place, named_row, varargs_row, deref_row, stepped}
use Rattle.covering_laws.specs.covered_memory.Spots.{IsFurther, room, IsInTree}
use Rattle.covering_laws.specs.covered_memory.Covered.{CellIn, InstanceIn, MemoryIn}
use Rattle.covering_laws.proofs.covered_memory.Fields.{PointsTo, points_to}
use Rattle.covering_laws.specs.covered_state.World.{World, trees_of, sets_of}
use Rattle.covered_runs.specs.covered_steps.covered_values.Values.{Stands}
use Rattle.covered_runs.proofs.covered_steps.covered_values.Types.{none_some, some_one, along_part}
use Rattle.covered_runs.proofs.covered_steps.covered_values.Operands.{ok_one, err_ok}

-- an instance of an object
pub record IsThere (memory : List Instance) (key : ObjectKey) (i : ℕ) : Type 0 where
  pub inst : Instance
  pub inst_is : slice_get memory i ≡ Some inst
  pub key_is : inst.key ≡ key

module _ (memory : List Instance) (key : ObjectKey) where
  own_by : (i : ℕ) (o : Option Instance) → slice_get memory i ≡ o → has_key o key ≡ true → IsThere memory key i
  own_by i None is h = absurd (false≢true h)
  own_by i (Some inst) is h = record { inst = inst; inst_is = is; key_is = same_is inst.key key h }

  own_there : (own : List ℕ) (i : ℕ) → own_instance memory key own ≡ Some i → IsThere memory key i
  own_there [] i e = absurd (none_some e)
  own_there (j ∷ rest) i e = by (has_key (slice_get memory j) key) refl e (own_there rest i)
    where
      by : (b : Bool) → has_key (slice_get memory j) key ≡ b → cond b (Some j) (own_instance memory key rest) ≡ Some i → (own_instance memory key rest ≡ Some i → IsThere memory key i) → IsThere memory key i
      by true is f next = subst (IsThere memory key) (some_one f) (own_by j (slice_get memory j) refl is)
      by false is f next = next f

-- a place in the rest of a list is one further in the list
later : (x : Instance) (rest : List Instance) (key : ObjectKey) (k : ℕ) → IsThere rest key k → IsThere (x ∷ rest) key (suc k)
later x rest key k h = record { inst = h.inst; inst_is = h.inst_is; key_is = h.key_is }

first_there : (key : ObjectKey) (n : ℕ) (xs : List Instance) (i : ℕ) → first_instance key n xs ≡ Some i → (k : ℕ) × (i ≡ n + k) × IsThere xs key k
first_there key n [] i e = absurd (none_some e)
first_there key n (x ∷ rest) i e = by (same_object x.key key) refl e (first_there key (n + 1) rest i)
  where
    by : (b : Bool) → same_object x.key key ≡ b → cond b (Some n) (first_instance key (n + 1) rest) ≡ Some i → (first_instance key (n + 1) rest ≡ Some i → (k : ℕ) × (i ≡ (n + 1) + k) × IsThere rest key k)
        → (k : ℕ) × (i ≡ n + k) × IsThere (x ∷ rest) key k
    by true is f next =
        let same : n ≡ i = some_one f in
        (0, (let e : i ≡ n + 0 = omega arith in e), record { inst = x; inst_is = refl; key_is = same_is x.key key is })
    by false is f next =
        let r = next f in
        let same : i ≡ (n + 1) + r.0 = r.1 in
        (suc r.0, (let e : i ≡ n + suc r.0 = omega arith in e), later x rest key r.0 r.2)

instance_there : (memory : List Instance) (own : List ℕ) (key : ObjectKey) (i : ℕ) → instance_of memory own key ≡ Some i → IsThere memory key i
instance_there memory own key i e = by (own_instance memory key own) refl e
  where
    by : (o : Option ℕ) → own_instance memory key own ≡ o → either_instance o (first_instance key 0 memory) ≡ Some i → IsThere memory key i
    by (Some j) is f = own_there memory key own i (is ∙ f)
    by None is f =
        let r = first_there key 0 memory i f in
        let same : i ≡ 0 + r.0 = r.1 in
        subst (IsThere memory key) (let e : r.0 ≡ i = omega arith in e) r.2

-- the object's instance is the place
pub record IsNamed (memory : List Instance) (key : ObjectKey) (c : Cell) : Type 0 where
  pub i : ℕ
  pub there : IsThere memory key i
  pub cell_is : Pointer i [] false ≡ c

pub named_inv : (memory : List Instance) (own : List ℕ) (key : ObjectKey) (c : Cell) → named_row memory own key ≡ Ok c → IsNamed memory key c
unfolding named_row
named_inv memory own key c e = by (instance_of memory own key) refl e
  where
    by : (o : Option ℕ) → instance_of memory own key ≡ o → whole_place o ≡ Ok c → IsNamed memory key c
    by None is f = absurd (err_ok f)
    by (Some i) is f = record { i = i; there = instance_there memory own key i is; cell_is = ok_one f }

-- what isn't allocated has a type
far_key : (k : ℕ) (b : Bool) → nat_lt k 55 ≡ b → is_allocated (cond b (FunctionKey k) (LibraryKey (k - 52))) ≡ false
far_key k true is = refl
far_key k false is = grind (arith, nat_tests)

pub entity_free : (e : ℕ) (o : Option Entity) → is_allocated (entity_key e o) ≡ false
entity_free e None = refl
entity_free e (Some entity) = by (library_number entity)
  where
    by : (o : Option ℕ) → is_allocated (option_map_or library_key o (EntityKey e)) ≡ false
    by None = refl
    by (Some k) = far_key k (nat_lt k 55) refl

-- nor is it what a variadic function is passed past its parameters
far_plain : (k : ℕ) (b : Bool) → IsFurther (cond b (FunctionKey k) (LibraryKey (k - 52))) → ⊥
far_plain k true f = f
far_plain k false f = f

pub entity_plain : (e : ℕ) (o : Option Entity) → IsFurther (entity_key e o) → ⊥
entity_plain e None f = f
entity_plain e (Some entity) f = by (library_number entity) f
  where
    by : (o : Option ℕ) → IsFurther (option_map_or library_key o (EntityKey e)) → ⊥
    by None f = f
    by (Some k) f = far_plain k (nat_lt k 55) f

-- the first place of an object of further arguments
pub varargs_inv : (memory : List Instance) (own : List ℕ) (e : ℕ) (c : Cell) → varargs_row memory own e ≡ Ok c → (i : ℕ) × IsThere memory (VarargsKey e) i × (Pointer i (Index 0 ∷ []) false ≡ c)
unfolding varargs_row
varargs_inv memory own e c f = by (instance_of memory own (VarargsKey e)) refl f
  where
    by : (o : Option ℕ) → instance_of memory own (VarargsKey e) ≡ o → first_place o ≡ Ok c → (i : ℕ) × IsThere memory (VarargsKey e) i × (Pointer i (Index 0 ∷ []) false ≡ c)
    by None is g = absurd (err_ok g)
    by (Some i) is g = (i, instance_there memory own (VarargsKey e) i is, ok_one g)

open_static : (l : Linkage) → is_open l Static ≡ false
open_static External = refl
open_static Internal = refl
open_static Local = refl

open_automatic : (l : Linkage) → is_open l Automatic ≡ false
open_automatic External = refl
open_automatic Internal = refl
open_automatic Local = refl

pub closed_key : (e : ℕ) (entity : Entity) → is_open entity.linkage entity.storage ≡ false → entity_key e (Some entity) ≡ EntityKey e
closed_key e entity is =
    ap (λ (b : Bool). option_map_or library_key (cond b (option_map (λ found. found.number) (summary_of entity.name)) None) (EntityKey e)) is

-- what a literal makes is an object of its own
pub lasting_key : (e : ℕ) (o : Option Entity) → IsLasting o → entity_key e o ≡ EntityKey e
lasting_key e None h = absurd h
lasting_key e (Some entity) (inl static) = closed_key e entity (ap (is_open entity.linkage) static ∙ open_static entity.linkage)
lasting_key e (Some entity) (inr automatic) = closed_key e entity (ap (is_open entity.linkage) automatic ∙ open_automatic entity.linkage)

pub deref_inv : (c d : Cell) → deref_row c ≡ Ok d → c ≡ d
deref_inv Null d e = absurd (err_ok e)
deref_inv (Pointer i path past) d e = ok_one e
deref_inv (Function key) d e = ok_one e
deref_inv Unset d e = absurd (err_ok e)
deref_inv (Number n) d e = absurd (err_ok e)

-- the node of a place, and the number of its type
pub node_there : (world : World) (q : ℕ) → (sort_at (trees_of world) q ≡ NoNode → ⊥) → (x : Node) × (slice_get (trees_of world).nodes q ≡ Some x)
node_there world q h = by (slice_get (trees_of world).nodes q) refl
  where
    by : (o : Option Node) → slice_get (trees_of world).nodes q ≡ o → (x : Node) × (slice_get (trees_of world).nodes q ≡ Some x)
    by None is = absurd (h (ap sort_in is))
    by (Some x) is = (x, is)

module _ (world : World) (stands : Stands world) (memory : List Instance) (all : MemoryIn (sets_of world) memory) where
  pub typed_one : (inst : Instance) → InstanceIn (sets_of world) memory inst → is_allocated inst.key ≡ false → (IsFurther inst.key → ⊥) → (whole : Ctype) × (whole_of world.program.types inst ≡ Some whole)
  typed_one inst h free plain = by inst.ty refl
    where
      by : (o : Option TypeId) → inst.ty ≡ o → (whole : Ctype) × (whole_of world.program.types inst ≡ Some whole)
      by None is = elim (h.untyped is) [ inl heap ↦ absurd (false≢true (sym free ∙ heap)) | inr further ↦ absurd (plain further) ]
      by (Some id) is = (_, ap (typed_whole world.program.types inst) is)

  -- a covered place of which the type passes a test is a part of an instance, of such a type
  pub record IsPart (through i : ℕ) (path : List PathStep) (test : Option Ctype → Bool) : Type 0 where
    pub ty : Ctype
    pub passes : test (Some ty) ≡ true
    pub points : PointsTo (sets_of world) world.system stands.grounds memory through i path ty

  pub part_there : (test : Option Ctype → Bool) → test None ≡ false → (through i : ℕ) (path : List PathStep) (past : Bool) → CellIn (sets_of world) memory (Some through) (Pointer i path past)
      → test (type_there world.program.types memory (Pointer i path past)) ≡ true → IsPart through i path test
  part_there test none through i path past h e = by (whole_of world.program.types h.inst) refl h.in_tree
    where
      found : along world.program.types (whole_of world.program.types h.inst) path ≡ type_there world.program.types memory (Pointer i path past)
      found = sym (ap (λ (o : Option Instance). along world.program.types (whole_in world.program.types o) path) h.inst_is)

      in_part : (whole : Ctype) → whole_of world.program.types h.inst ≡ Some whole → (o : Option Reached) → part_at world.program.types (Some (reached whole 0 false)) path ≡ o → IsSome o → IsPart through i path test
      in_part whole is None at some = absurd (false≢true some)
      in_part whole is (Some part) at some =
          let here : type_there world.program.types memory (Pointer i path past) ≡ Some part.ty =
          sym found ∙ (ap (λ (o : Option Ctype). along world.program.types o path) is ∙ along_part world.program.types path (reached whole 0 false) part at) in
          record {
            ty = part.ty;
            passes = sym (ap test here) ∙ e;
            points = points_to (sets_of world) world.system stands.grounds memory through i path past h.inst whole part all h h.inst_is is at;
          }

      by : (o : Option Ctype) → whole_of world.program.types h.inst ≡ o → IsInTree world.program.types o (room h.inst) path → IsPart through i path test
      by None is tree = absurd (false≢true (sym none ∙ (ap test (sym (ap (λ (o : Option Ctype). along world.program.types o path) is) ∙ found) ∙ e)))
      by (Some whole) is tree = in_part whole is (part_at world.program.types (Some (reached whole 0 false)) path) refl tree

  -- a place of a type, with one step more
  pub record IsStepped (through : ℕ) (place : Cell) (step : PathStep) (test : Option Ctype → Bool) (c : Cell) : Type 0 where
    pub i : ℕ
    pub path : List PathStep
    pub past : Bool
    pub place_is : place ≡ Pointer i path past
    pub cell_is : Pointer i (path ++ step ∷ []) past ≡ c
    pub part : IsPart through i path test

  pub stepped_inv : (test : Option Ctype → Bool) → test None ≡ false → (through : ℕ) (place : Cell) (step : PathStep) (c : Cell) → CellIn (sets_of world) memory (Some through) place
      → cond (test (type_there world.program.types memory place)) (stepped place step) (Err Mismatch) ≡ Ok c → IsStepped through place step test c
  stepped_inv test none through (Pointer i path past) step c h e = by (test (type_there world.program.types memory (Pointer i path past))) refl e
    where
      by : (b : Bool) → test (type_there world.program.types memory (Pointer i path past)) ≡ b → cond b (stepped (Pointer i path past) step) (Err Mismatch) ≡ Ok c → IsStepped through (Pointer i path past) step test c
      by true is f = record { i = i; path = path; past = past; place_is = refl; cell_is = ok_one f; part = part_there test none through i path past h is }
      by false is f = absurd (err_ok f)
  stepped_inv test none through Null step c h e = absurd (err_ok (sym (ap (λ (b : Bool). cond b (stepped Null step) (Err Mismatch)) none) ∙ e))
  stepped_inv test none through Unset step c h e = absurd (err_ok (sym (ap (λ (b : Bool). cond b (stepped Unset step) (Err Mismatch)) none) ∙ e))
  stepped_inv test none through (Number n) step c h e = absurd (err_ok (sym (ap (λ (b : Bool). cond b (stepped (Number n) step) (Err Mismatch)) none) ∙ e))
  stepped_inv test none through (Function key) step c h e = absurd (err_ok (sym (ap (λ (b : Bool). cond b (stepped (Function key) step) (Err Mismatch)) none) ∙ e))
