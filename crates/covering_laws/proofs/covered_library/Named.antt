-- The objects of the library that are in memory: what a row names is covered.
use Rattle.std.proofs.Common.{arith, ◌≡◌, ◌∙◌, inl, inr, ℕ, suc, ◌+◌, eqb-true, Bool, true, false, cond, List, [], ◌∷◌, Option, Some, None, slice_get, refl, sym, ap, subst}
use Rattle.std.proofs.lemmas.Bool.{false≢true}
use Rattle.c_types.specs.declared.key.ObjectKey.{ObjectKey}
use Rattle.c_types.specs.declared.key.ObjectKey.TheVariants.{Entity as EntityKey, Text as TextKey, Call as CallKey, Library as LibraryKey, Star as StarKey, Function as FunctionKey}
use Rattle.c_types.specs.declared.key.ObjectKey.TheVariants.{Varargs as VarargsKey, Outside as OutsideKey}
use Rattle.c_types.specs.declared.term.PathStep.TheVariants.{Index}
use Rattle.c_types.specs.declared.term.TypeId.{TypeId}
use Rattle.c_types.specs.Trees.{Ctype, ArrayOf}
use Rattle.c_types.specs.Table.{type_of, extent_in, size_below}
use Rattle.std.specs.Option.{option_map}
use Rattle.sol_model.specs.declared.system.System.{System}
use Rattle.obj_made.specs.declared.object.Content.{Content}
use Rattle.obj_made.specs.declared.object.Content.TheVariants.{Blob, Scalars}
use Rattle.obj_space.specs.declared.location.Location.{Location}
use Rattle.obj_space.specs.Spots.{reached, part_at, node_in}
use Rattle.obj_space.specs.View.{first_from}
use Rattle.ref_cells.specs.declared.instance.Instance.{Instance}
use Rattle.ref_cells.specs.Wholes.{is_allocated, elements_of, typed_whole, whole_of}
use Rattle.ref_elements.specs.Objects.{is_object, object_from}
use Rattle.covering_laws.specs.covered_memory.Spots.{spot_at, spot_from, spot, IsFurther, room, IsInTree}
use Rattle.covering_laws.specs.covered_memory.Covered.{Sets, HasShape, object_row, InstanceIn, MemoryIn}
use Rattle.covering_laws.specs.covered_memory.Demands.{Grounds}
use Rattle.covering_laws.proofs.covered_memory.Anchors.{spot_is}
use Rattle.covering_laws.proofs.covered_rows.Places.{start_spot}

some_one : {X : Type 0} → {x y : X} → ◌≡◌ {A = Option X} (Some x) (Some y) → x ≡ y
some_one h = cc

none_some : {X : Type 0} → {x : X} → ◌≡◌ {A = Option X} None (Some x) → ⊥
none_some h = cc

is_the_object : (position : ℕ) (key : ObjectKey) → is_object position key ≡ true → key ≡ LibraryKey position
is_the_object position (LibraryKey other) h = ap (λ (k : ℕ). LibraryKey k) (eqb-true other position h)
is_the_object position (EntityKey k) h = absurd (false≢true h)
is_the_object position (TextKey k) h = absurd (false≢true h)
is_the_object position (CallKey k) h = absurd (false≢true h)
is_the_object position (StarKey k) h = absurd (false≢true h)
is_the_object position OutsideKey h = absurd (false≢true h)
is_the_object position (VarargsKey k) h = absurd (false≢true h)
is_the_object position (FunctionKey k) h = absurd (false≢true h)

-- the instance that is found is one of that object
pub object_inv : (position k : ℕ) (memory : List Instance) (i : ℕ) → object_from position k memory ≡ Some i → (j : ℕ) × (k + j ≡ i) × (inst : Instance) × (slice_get memory j ≡ Some inst) × (inst.key ≡ LibraryKey position)
object_inv position k [] i h = absurd (none_some h)
object_inv position k (x ∷ rest) i h = by (is_object position x.key) refl h (object_inv position (k + 1) rest i)
  where
    by : (b : Bool) → is_object position x.key ≡ b → cond b (Some k) (object_from position (k + 1) rest) ≡ Some i
        → (object_from position (k + 1) rest ≡ Some i → (j : ℕ) × ((k + 1) + j ≡ i) × (inst : Instance) × (slice_get rest j ≡ Some inst) × (inst.key ≡ LibraryKey position))
        → (j : ℕ) × (k + j ≡ i) × (inst : Instance) × (slice_get (x ∷ rest) j ≡ Some inst) × (inst.key ≡ LibraryKey position)
    by true is f next = (0, (let e = some_one f in omega arith), x, refl, is_the_object position x.key is)
    by false is f next =
        let r = next f in
        (suc r.0, (let e = r.1 in omega arith), r.2, r.3, r.4)

pub object_there : (position : ℕ) (memory : List Instance) (i : ℕ) → object_from position 0 memory ≡ Some i → (inst : Instance) × (slice_get memory i ≡ Some inst) × (inst.key ≡ LibraryKey position)
object_there position memory i h =
    let r = object_inv position 0 memory i h in
    (r.2, subst (λ (k : ℕ). slice_get memory k ≡ Some r.2) (let e = r.1 in omega arith) r.3, r.4)

module _ (g : Sets) (system : System) (grounds : Grounds g.table g.space system) (memory : List Instance) (all : MemoryIn g memory) (position l : ℕ) (first : first_from 0 g.space (LibraryKey position) ≡ Some l) where
  spot_first : (key : ObjectKey) → key ≡ LibraryKey position → first_from 0 g.space key ≡ Some l
  spot_first key same = ap (first_from 0 g.space) same ∙ first

  -- the object itself, where it isn't allocated
  pub place_named : is_allocated (LibraryKey position) ≡ false → (i : ℕ) → object_from position 0 memory ≡ Some i
      → (inst : Instance) × (slice_get memory i ≡ Some inst) × IsInTree g.table (whole_of g.table inst) (room inst) [] × (spot g.table g.space inst.key [] ≡ Some l)
  place_named plain i h =
      let o = object_there position memory i h in
      (o.0, o.1, by o.0 o.2 (all i o.0 o.1) o.0.ty refl, start_spot g.table g.space o.0.key l (spot_first o.0.key o.2))
    where
      by : (inst : Instance) → inst.key ≡ LibraryKey position → InstanceIn g memory inst → (t : Option TypeId) → inst.ty ≡ t → IsInTree g.table (whole_of g.table inst) (room inst) []
      by inst key inside None none =
          elim (inside.untyped none) [
            | inl heap ↦ absurd (false≢true (sym plain ∙ (sym (ap is_allocated key) ∙ heap)))
            | inr further ↦ absurd (subst IsFurther key further)
          ]
      by inst key inside (Some id) typed = subst (λ (w : Option Ctype). IsInTree g.table w (room inst) []) (sym (ap (typed_whole g.table inst) typed)) refl

  -- the first element of an object of scalars
  pub element_named : (location : Location) → slice_get g.space l ≡ Some location → (scalar : ℕ) → location.content ≡ Scalars scalar → (i : ℕ) → object_from position 0 memory ≡ Some i
      → (inst : Instance) × (slice_get memory i ≡ Some inst) × IsInTree g.table (whole_of g.table inst) (room inst) (Index 0 ∷ []) × (spot g.table g.space inst.key (Index 0 ∷ []) ≡ Some l)
  element_named location location_is scalar content i h =
      let o = object_there position memory i h in
      let inside = all i o.0 o.1 in
      let same : inside.first ≡ l = some_one (sym inside.first_is ∙ spot_first o.0.key o.2) in
      let own : inside.location ≡ location = some_one (sym inside.location_is ∙ (ap (slice_get g.space) same ∙ location_is)) in
      let content_is : inside.location.content ≡ Scalars scalar = ap (λ (x : Location). x.content) own ∙ content in
      let shape : HasShape g.table (Scalars scalar) (whole_of g.table o.0) = subst (λ (c : Content). HasShape g.table c (whole_of g.table o.0)) content_is inside.shape in
      let part : part_at g.table (Some (reached (ArrayOf shape.0 (Some shape.1)) 0 false)) (Index 0 ∷ []) ≡ Some (reached shape.0 0 false) = refl in
      let there = spot_is g.table g.space system grounds o.0.key inside.first inside.location inside.first_is inside.location_is (Some (ArrayOf shape.0 (Some shape.1)))
      (subst (HasShape g.table inside.location.content) shape.2 inside.shape) (Index 0 ∷ []) (reached shape.0 0 false) part in (
        o.0,
        o.1,
        subst (λ (w : Option Ctype). IsInTree g.table w (room o.0) (Index 0 ∷ [])) (sym shape.2) refl,
        there ∙ (ap (λ (c : Content). Some (object_row c inside.first 0)) content_is ∙ ap (λ (k : ℕ). Some k) (let e = same in omega arith)),
      )

  -- the first element of an allocated object of bytes
  pub blob_named : (location : Location) → slice_get g.space l ≡ Some location → location.content ≡ Blob → is_allocated (LibraryKey position) ≡ true → (i : ℕ) → object_from position 0 memory ≡ Some i
      → (inst : Instance) × (slice_get memory i ≡ Some inst) × IsInTree g.table (whole_of g.table inst) (room inst) (Index 0 ∷ []) × (spot g.table g.space inst.key (Index 0 ∷ []) ≡ Some l)
  blob_named location location_is content heap i h =
      let o = object_there position memory i h in (
        o.0,
        o.1,
        by o.0 o.2 o.0.ty refl,
        ap (λ (f : Option ℕ). spot_from g.table g.space f (Index 0 ∷ [])) (spot_first o.0.key o.2)
            ∙ (ap (λ (x : Option Location). spot_at g.table l x (Index 0 ∷ [])) location_is
            ∙ (ap (λ (c : Content). option_map (λ (n : ℕ). l + n) (node_in g.table c (Index 0 ∷ []))) content ∙ ap (λ (n : ℕ). Some n) (let e : l + 0 ≡ l = omega arith in e))),
      )
    where
      by : (inst : Instance) → inst.key ≡ LibraryKey position → (t : Option TypeId) → inst.ty ≡ t → IsInTree g.table (whole_of g.table inst) (room inst) (Index 0 ∷ [])
      by inst key None none = subst (λ (w : Option Ctype). IsInTree g.table w (room inst) (Index 0 ∷ [])) (sym (ap (typed_whole g.table inst) none)) (0, refl, omega arith)
      by inst key (Some id) typed =
          let array : Ctype = ArrayOf (type_of g.table id.0) (Some (elements_of inst.key inst.bytes (size_below (extent_in g.table (type_of g.table id.0))))) in
          subst (λ (w : Option Ctype). IsInTree g.table w (room inst) (Index 0 ∷ []))
          (sym (ap (typed_whole g.table inst) typed ∙ ap (λ (b : Bool). Some (cond b (ArrayOf (type_of g.table id.0) (Some (elements_of inst.key inst.bytes (size_below (extent_in g.table (type_of g.table id.0)))))) (type_of g.table id.0))) (ap is_allocated key ∙ heap))) refl
