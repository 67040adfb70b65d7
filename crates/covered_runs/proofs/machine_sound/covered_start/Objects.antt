-- The objects that live for the whole run are covered.
use Rattle.std.proofs.Common.{◌≡◌, ◌∙◌, inl, inr, ℕ, zero, suc, ◌+◌, ◌==◌, ℤ, Bool, true, false, cond, List, [], ◌∷◌, length, Option, Some, None, IsTrue, slice_get, refl, sym, ap, subst}
use Rattle.std.specs.List.{cons_option}
use Rattle.std.proofs.lemmas.Bool.{false≢true}
use Rattle.c_types.specs.declared.key.ObjectKey.{ObjectKey}
use Rattle.c_types.specs.declared.key.ObjectKey.TheVariants.{Entity as EntityKey, Text as TextKey, Call as CallKey, Library as LibraryKey, Star as StarKey, Function as FunctionKey}
use Rattle.c_types.specs.declared.key.ObjectKey.TheVariants.{Varargs as VarargsKey, Outside as OutsideKey}
use Rattle.c_types.specs.declared.term.TypeId.{TypeId}
use Rattle.c_types.specs.declared.term.PathStep.{PathStep}
use Rattle.c_types.specs.Trees.{Ctype, IntegerType, PointerTo, ArrayOf}
use Rattle.c_types.specs.Table.{Table, type_of}
use Rattle.c_types.specs.Made.{IsMade, AreNamed}
use Rattle.type_rules.specs.Kinds.{IsScalar}
use Rattle.core_tree.specs.declared.node.Node.{Node}
use Rattle.core_tree.specs.declared.node.NodeKind.{NodeKind}
use Rattle.core_tree.specs.declared.node.NodeKind.TheVariants.{Text}
use Rattle.core_tree.specs.declared.node.Entity.{Entity}
use Rattle.core_tree.specs.declared.node.Storage.{Storage}
use Rattle.core_tree.specs.declared.node.Storage.TheVariants.{Static, Automatic, FunctionBody, Parameter, Declared}
use Rattle.core_tree.specs.declared.node.Program.{Program}
use Rattle.core_tree.specs.Typed.{CoreTrees}
use Rattle.sol_model.specs.Families.{Family}
use Rattle.obj_made.specs.declared.object.Content.{Content}
use Rattle.obj_made.specs.declared.object.Content.TheVariants.{Blob, Scalar, Scalars, Typed}
use Rattle.obj_made.specs.Made.{entity_content}
use Rattle.obj_space.specs.declared.location.Location.{Location}
use Rattle.obj_space.specs.Objects.{LibraryRow, library_rows}
use Rattle.obj_space.specs.Parts.{type_number}
use Rattle.obj_space.specs.Space.{locations_in}
use Rattle.obj_space.specs.Spots.{Reached, part_at, type_made}
use Rattle.obj_space.specs.View.{first_from}
use Rattle.ref_cells.specs.declared.cells.Cell.{Cell}
use Rattle.ref_cells.specs.declared.cells.Cell.TheVariants.{Unset, Number, Null, Pointer, Function as FunctionCell}
use Rattle.ref_cells.specs.declared.instance.Instance.{Instance}
use Rattle.ref_cells.specs.Cells.{CellList}
use Rattle.ref_cells.specs.Wholes.{is_allocated, array_in, typed_whole, whole_of}
use Rattle.ref_state.specs.declared.ref_types.types.LibraryTypes.{LibraryTypes}
use Rattle.ref_state.specs.ref_types.Types.{id, type_in, library_ids}
use Rattle.ref_start.specs.Objects.{object_types, object_with, cells_from, numbers, characters, is_static, entity_object, literal_by, literal_object, object_of, is_new, object_at, objects_after}
use Rattle.covering_laws.specs.covered_memory.Cells.{EachCell}
use Rattle.covering_laws.specs.covered_memory.Spots.{IsFurther}
use Rattle.covering_laws.specs.covered_memory.Covered.{CellIn, pointer_row, CellsIn, cell_row, HasShape, InstanceIn, MemoryIn}
use Rattle.covering_laws.specs.object_contents.Contents.{IsMadeOf, IsMadeWhole}
use Rattle.covering_laws.proofs.covered_memory.Cells.{each_change}
use Rattle.covering_laws.proofs.covered_memory.Firsts.{is_first}
use Rattle.covering_laws.proofs.object_contents.Contents.{contents_known}
use Rattle.covering_laws.proofs.object_contents.Made.{first_some}
use Rattle.covered_runs.specs.machine_sound.covered_start.Objects.{machine_table, machine_trees, machine_sets}
use Rattle.covered_runs.proofs.machine_sound.covered_start.Types.{own_type, text_type, classes_type, pointer_type, arguments_type, number_type}

some_one : {X : Type 0} → {x y : X} → ◌≡◌ {A = Option X} (Some x) (Some y) → x ≡ y
some_one h = cc

none_some : {X : Type 0} → {x : X} → ◌≡◌ {A = Option X} None (Some x) → ⊥
none_some h = cc

-- each object of the list is that of one of these locations
abbrev pub IsFrom : CoreTrees → LibraryTypes → List Location → Instance → Type 0
IsFrom u ids xs inst = (l : ℕ) × (x : Location) × (slice_get xs l ≡ Some x) × (object_of u ids x.key ≡ Some inst)

if_new : (b : Bool) (o : Option Instance) (a : Instance) → cond b o None ≡ Some a → o ≡ Some a
if_new true o a e = e
if_new false o a e = absurd (none_some e)

from_one : (u : CoreTrees) (ids : LibraryTypes) (before : Option ObjectKey) (x : Location) (rest : List Location) (list : List Instance) (inst : Instance) (o : Option Instance) → object_at u ids before x.key ≡ o
    → ((j : ℕ) → slice_get list j ≡ Some inst → IsFrom u ids rest inst) → (i : ℕ) → slice_get (cons_option o list) i ≡ Some inst → IsFrom u ids (x ∷ rest) inst
from_one u ids before x rest list inst None here later i e = (let f = later i e in (suc f.0, f.1, f.2, f.3))
from_one u ids before x rest list inst (Some a) here later zero e = (0, x, refl, if_new (is_new before x.key) (object_of u ids x.key) inst (here ∙ e))
from_one u ids before x rest list inst (Some a) here later (suc i) e = (let f = later i e in (suc f.0, f.1, f.2, f.3))

pub from_objects : (u : CoreTrees) (ids : LibraryTypes) (before : Option ObjectKey) (xs : List Location) (inst : Instance) (i : ℕ) → slice_get (objects_after u ids before xs) i ≡ Some inst → IsFrom u ids xs inst
from_objects u ids before [] inst i e = absurd (none_some e)
from_objects u ids before (x ∷ rest) inst i e =
    from_one u ids before x rest (objects_after u ids (Some x.key) rest) inst (object_at u ids before x.key) refl (from_objects u ids (Some x.key) rest inst) i e

abbrev pub IsNumber : Cell → Type 0
IsNumber (Number n) = Unit {0}
IsNumber cell = ⊥

-- an object of a key and type, in which only numbers are listed
pub record IsObject (inst : Instance) (key : ObjectKey) (ty : Option TypeId) : Type 0 where
  pub key_is : inst.key ≡ key
  pub type_is : inst.ty ≡ ty
  pub plain : EachCell (λ path cell. IsNumber cell) inst.cells

same_object_is : (key : ObjectKey) (ty : Option TypeId) (cells : CellList) (inst : Instance) → EachCell (λ path cell. IsNumber cell) cells → object_with key ty cells ≡ inst → IsObject inst key ty
same_object_is key ty cells inst plain same = record {
  key_is = ap (λ (x : Instance). x.key) (sym same);
  type_is = ap (λ (x : Instance). x.ty) (sym same);
  plain = subst (λ (x : Instance). EachCell (λ path cell. IsNumber cell) x.cells) same plain;
}

static_one : (key : ObjectKey) (inst : Instance) (ty : TypeId) (b : Bool) → cond b (Some (object_with key (Some ty) [])) None ≡ Some inst → (b ≡ true) × IsObject inst key (Some ty)
static_one key inst ty true h = (refl, same_object_is key (Some ty) [] inst tt (some_one h))
static_one key inst ty false h = absurd (none_some h)

pub entity_one : (key : ObjectKey) (inst : Instance) (o : Option Entity) → entity_object key o ≡ Some inst → (x : Entity) × (o ≡ Some x) × (is_static x.storage ≡ true) × IsObject inst key (Some x.ty)
entity_one key inst None h = absurd (none_some h)
entity_one key inst (Some x) h = (let s = static_one key inst x.ty (is_static x.storage) h in (x, refl, s.0, s.1))

pub numbers_plain : (i : ℕ) (text : List ℤ) → EachCell (λ path cell. IsNumber cell) (cells_from i (numbers text))
numbers_plain i [] = tt
numbers_plain i (c ∷ rest) = (tt, numbers_plain (i + 1) rest)

literal_one : (key : ObjectKey) (inst : Instance) (ty : TypeId) (kind : NodeKind) → literal_by key ty kind ≡ Some inst → IsObject inst key (Some ty)
literal_one key inst ty (Text bytes) h = same_object_is key (Some ty) (cells_from 0 (numbers (characters bytes))) inst (numbers_plain 0 (characters bytes)) (some_one h)
literal_one key inst ty kind h = absurd (none_some h)

pub text_one : (key : ObjectKey) (inst : Instance) (o : Option Node) → literal_object key o ≡ Some inst → (x : Node) × (o ≡ Some x) × IsObject inst key (Some x.ty)
text_one key inst None h = absurd (none_some h)
text_one key inst (Some x) h = (x, refl, literal_one key inst x.ty x.kind h)

pub library_one : (k : ℕ) (ty : Option TypeId) (inst : Instance) (b : Bool) → cond b None (Some (object_with (LibraryKey k) ty [])) ≡ Some inst → (b ≡ false) × IsObject inst (LibraryKey k) ty
library_one k ty inst true h = absurd (none_some h)
library_one k ty inst false h = (refl, same_object_is (LibraryKey k) ty [] inst tt (some_one h))

static_content : (storage : Storage) (ty : TypeId) → is_static storage ≡ true → entity_content storage ty ≡ Typed ty
static_content Static ty h = refl
static_content Automatic ty h = refl
static_content FunctionBody ty h = absurd (false≢true h)
static_content Parameter ty h = refl
static_content Declared ty h = refl

-- the type of an object that isn't allocated
whole_is : (table : Table) (inst : Instance) (key : ObjectKey) (i : TypeId) → IsObject inst key (Some i) → is_allocated key ≡ false → whole_of table inst ≡ Some (type_of table i.0)
whole_is table inst key i o plain =
    ap (typed_whole table inst) o.type_is
    ∙ ap (λ (b : Bool). Some (cond b (array_in table inst.key inst.bytes (type_of table i.0)) (type_of table i.0))) (ap is_allocated o.key_is ∙ plain)

scalar_shape : (table : Table) (inst : Instance) (key : ObjectKey) (i : TypeId) (t : Ctype) (number : ℕ) → IsObject inst key (Some i) → is_allocated key ≡ false → type_of table i.0 ≡ t → IsScalar t → type_number t ≡ number
    → HasShape table (Scalar number) (whole_of table inst)
scalar_shape table inst key i t number o plain same scalar is = (t, whole_is table inst key i o plain ∙ ap (λ (x : Ctype). Some x) same, scalar, is)

pub scalars_shape : (table : Table) (inst : Instance) (key : ObjectKey) (i : TypeId) (t : Ctype) (m number : ℕ) → IsObject inst key (Some i) → is_allocated key ≡ false → type_of table i.0 ≡ ArrayOf t (Some m) → IsScalar t → type_number t ≡ number
    → HasShape table (Scalars number) (whole_of table inst)
scalars_shape table inst key i t m number o plain same scalar is = (t, m, whole_is table inst key i o plain ∙ ap (λ (x : Ctype). Some x) same, scalar, is)

-- what an object of a key is
pub record IsShaped (p : Program) (inst : Instance) (key : ObjectKey) : Type 0 where
  pub key_is : inst.key ≡ key
  pub plain : EachCell (λ path cell. IsNumber cell) inst.cells
  pub untyped : inst.ty ≡ None → IsTrue (is_allocated key)
  pub further : IsFurther key → ⊥
  pub shape : (content : Content) → IsMadeOf p key content → IsMadeWhole p.types content → HasShape (machine_table p) content (whole_of (machine_table p) inst)

module _ (p : Program) (made : IsMade p.types) (named : AreNamed p.types) where
  typed_shape : (inst : Instance) (key : ObjectKey) (ty : TypeId) (content : Content) → IsObject inst key (Some ty) → is_allocated key ≡ false → content ≡ Typed ty → IsMadeWhole p.types content → HasShape (machine_table p) content (whole_of (machine_table p) inst)
  typed_shape inst key ty content o plain is whole =
      let complete = whole ty (ap type_made is) in
      let own = own_type p made named ty complete in
      subst (λ (c : Content). HasShape (machine_table p) c (whole_of (machine_table p) inst)) (sym is) (whole_is (machine_table p) inst key ty o plain, own.1)

  typed_never : (inst : Instance) (ty : TypeId) → inst.ty ≡ Some ty → inst.ty ≡ None → ⊥
  typed_never inst ty some none = none_some (sym none ∙ some)

  entity_shaped : (e : ℕ) (inst : Instance) → entity_object (EntityKey e) (slice_get p.entities.items e) ≡ Some inst → IsShaped p inst (EntityKey e)
  entity_shaped e inst h =
      let one = entity_one (EntityKey e) inst (slice_get p.entities.items e) h in
      let o = one.3 in
      record {
        key_is = o.key_is;
        plain = o.plain;
        untyped = λ none. absurd (typed_never inst one.0.ty o.type_is none);
        further = λ f. f;
        shape = λ content of whole.
            let same : of.0 ≡ one.0 = some_one (sym of.1 ∙ one.1) in
            let is : content ≡ Typed one.0.ty = of.2 ∙ (ap (λ (x : Entity). entity_content x.storage x.ty) same ∙ static_content one.0.storage one.0.ty one.2) in
            typed_shape inst (EntityKey e) one.0.ty content o refl is whole;
      }

  text_shaped : (n : ℕ) (inst : Instance) → literal_object (TextKey n) (slice_get p.nodes.items n) ≡ Some inst → IsShaped p inst (TextKey n)
  text_shaped n inst h =
      let one = text_one (TextKey n) inst (slice_get p.nodes.items n) h in
      let o = one.2 in
      record {
        key_is = o.key_is;
        plain = o.plain;
        untyped = λ none. absurd (typed_never inst one.0.ty o.type_is none);
        further = λ f. f;
        shape = λ content of whole.
            let same : of.0 ≡ one.0 = some_one (sym of.1 ∙ one.1) in
            typed_shape inst (TextKey n) one.0.ty content o refl (of.2 ∙ ap (λ (x : Node). Typed x.ty) same) whole;
      }

  -- the objects of the library, one after another
  abbrev pub LibraryShaped : ℕ → Instance → Type 0
  LibraryShaped k inst = (row : LibraryRow) → slice_get library_rows k ≡ Some row → HasShape (machine_table p) row.content (whole_of (machine_table p) inst)

  of_content : (inst : Instance) (row : LibraryRow) (content : Content) → content ≡ row.content → HasShape (machine_table p) content (whole_of (machine_table p) inst) → HasShape (machine_table p) row.content (whole_of (machine_table p) inst)
  of_content inst row content same h = subst (λ (c : Content). HasShape (machine_table p) c (whole_of (machine_table p) inst)) same h

  pub library_shape : (k : ℕ) (inst : Instance) → (k == 10) ≡ false → IsObject inst (LibraryKey k) (type_in (slice_get (object_types (library_ids (length p.types.terms))) k)) → LibraryShaped k inst
  unfolding library_rows
  library_shape zero inst few o row e =
      of_content inst row (Scalars 0) (ap (λ (r : LibraryRow). r.content) (some_one e)) (scalars_shape (machine_table p) inst (LibraryKey 0) (id (length p.types.terms + 2)) (IntegerType 1 1 true) 64 0 o refl (text_type p made named) (inl tt) refl)
  library_shape (suc zero) inst few o row e =
      of_content inst row (Scalars 0) (ap (λ (r : LibraryRow). r.content) (some_one e)) (scalars_shape (machine_table p) inst (LibraryKey 1) (id (length p.types.terms + 2)) (IntegerType 1 1 true) 64 0 o refl (text_type p made named) (inl tt) refl)
  library_shape (suc (suc zero)) inst few o row e =
      of_content inst row Blob (ap (λ (r : LibraryRow). r.content) (some_one e)) (inl (ap (typed_whole (machine_table p) inst) o.type_is))
  library_shape (suc (suc (suc zero))) inst few o row e =
      of_content inst row (Scalar 4) (ap (λ (r : LibraryRow). r.content) (some_one e)) (scalar_shape (machine_table p) inst (LibraryKey 3) (id (length p.types.terms + 5)) (PointerTo (IntegerType 1 1 true)) 4 o refl (pointer_type p made named) (inr tt) refl)
  library_shape (suc (suc (suc (suc zero)))) inst few o row e =
      of_content inst row (Scalar 4) (ap (λ (r : LibraryRow). r.content) (some_one e)) (scalar_shape (machine_table p) inst (LibraryKey 4) (id (length p.types.terms + 5)) (PointerTo (IntegerType 1 1 true)) 4 o refl (pointer_type p made named) (inr tt) refl)
  library_shape (suc (suc (suc (suc (suc zero))))) inst few o row e =
      of_content inst row (Scalar 4) (ap (λ (r : LibraryRow). r.content) (some_one e)) (scalar_shape (machine_table p) inst (LibraryKey 5) (id (length p.types.terms + 5)) (PointerTo (IntegerType 1 1 true)) 4 o refl (pointer_type p made named) (inr tt) refl)
  library_shape (suc (suc (suc (suc (suc (suc zero)))))) inst few o row e =
      of_content inst row (Scalar 2) (ap (λ (r : LibraryRow). r.content) (some_one e)) (scalar_shape (machine_table p) inst (LibraryKey 6) (id (length p.types.terms + 7)) (IntegerType 4 4 true) 2 o refl (number_type p made named) (inl tt) refl)
  library_shape (suc (suc (suc (suc (suc (suc (suc zero))))))) inst few o row e =
      of_content inst row (Scalar 4) (ap (λ (r : LibraryRow). r.content) (some_one e)) (scalar_shape (machine_table p) inst (LibraryKey 7) (id (length p.types.terms + 5)) (PointerTo (IntegerType 1 1 true)) 4 o refl (pointer_type p made named) (inr tt) refl)
  library_shape (suc (suc (suc (suc (suc (suc (suc (suc zero)))))))) inst few o row e =
      of_content inst row (Scalars 1) (ap (λ (r : LibraryRow). r.content) (some_one e)) (scalars_shape (machine_table p) inst (LibraryKey 8) (id (length p.types.terms + 4)) (IntegerType 2 3 false) 384 1 o refl (classes_type p made named) (inl tt) refl)
  library_shape (suc (suc (suc (suc (suc (suc (suc (suc (suc zero))))))))) inst few o row e =
      of_content inst row (Scalars 4) (ap (λ (r : LibraryRow). r.content) (some_one e)) (scalars_shape (machine_table p) inst (LibraryKey 9) (id (length p.types.terms + 6)) (PointerTo (IntegerType 1 1 true)) 9 4 o refl (arguments_type p made named) (inr tt) refl)
  library_shape (suc (suc (suc (suc (suc (suc (suc (suc (suc (suc zero)))))))))) inst few o row e = absurd (false≢true (sym few))
  library_shape (suc (suc (suc (suc (suc (suc (suc (suc (suc (suc (suc k))))))))))) inst few o row e = absurd (none_some e)

  library_untyped : (k : ℕ) (inst : Instance) (row : LibraryRow) → (k == 10) ≡ false → slice_get library_rows k ≡ Some row → IsObject inst (LibraryKey k) (type_in (slice_get (object_types (library_ids (length p.types.terms))) k)) → inst.ty ≡ None → IsTrue (is_allocated (LibraryKey k))
  unfolding library_rows
  library_untyped zero inst row few e o none = absurd (none_some (sym none ∙ o.type_is))
  library_untyped (suc zero) inst row few e o none = absurd (none_some (sym none ∙ o.type_is))
  library_untyped (suc (suc zero)) inst row few e o none = refl
  library_untyped (suc (suc (suc zero))) inst row few e o none = absurd (none_some (sym none ∙ o.type_is))
  library_untyped (suc (suc (suc (suc zero)))) inst row few e o none = absurd (none_some (sym none ∙ o.type_is))
  library_untyped (suc (suc (suc (suc (suc zero))))) inst row few e o none = absurd (none_some (sym none ∙ o.type_is))
  library_untyped (suc (suc (suc (suc (suc (suc zero)))))) inst row few e o none = absurd (none_some (sym none ∙ o.type_is))
  library_untyped (suc (suc (suc (suc (suc (suc (suc zero))))))) inst row few e o none = absurd (none_some (sym none ∙ o.type_is))
  library_untyped (suc (suc (suc (suc (suc (suc (suc (suc zero)))))))) inst row few e o none = absurd (none_some (sym none ∙ o.type_is))
  library_untyped (suc (suc (suc (suc (suc (suc (suc (suc (suc zero))))))))) inst row few e o none = absurd (none_some (sym none ∙ o.type_is))
  library_untyped (suc (suc (suc (suc (suc (suc (suc (suc (suc (suc zero)))))))))) inst row few e o none = absurd (false≢true (sym few))
  library_untyped (suc (suc (suc (suc (suc (suc (suc (suc (suc (suc (suc k))))))))))) inst row few e o none = absurd (none_some e)

  -- what is made for a key, where a location has it
  pub shaped : (key : ObjectKey) (inst : Instance) (content : Content) → object_of (machine_trees p) (library_ids (length p.types.terms)) key ≡ Some inst → IsMadeOf p key content → IsShaped p inst key
  shaped (EntityKey e) inst content h of = entity_shaped e inst h
  shaped (TextKey n) inst content h of = text_shaped n inst h
  shaped (LibraryKey k) inst content h of =
      let one = library_one k (type_in (slice_get (object_types (library_ids (length p.types.terms))) k)) inst (k == 10) h in
      record {
        key_is = one.1.key_is;
        plain = one.1.plain;
        untyped = library_untyped k inst of.0 one.0 of.1 one.1;
        further = λ f. f;
        shape = λ other is whole. subst (λ (c : Content). HasShape (machine_table p) c (whole_of (machine_table p) inst)) (sym is.2) (library_shape k inst one.0 one.1 is.0 is.1);
      }
  shaped (CallKey n) inst content h of = absurd (none_some h)
  shaped (StarKey k) inst content h of = absurd (none_some h)
  shaped (VarargsKey k) inst content h of = absurd (none_some h)
  shaped (FunctionKey k) inst content h of = absurd (none_some h)
  shaped OutsideKey inst content h of = absurd (none_some h)

  module _ (family : Family) where
    number_in : (memory : List Instance) (row : Option ℕ) (cell : Cell) → IsNumber cell → CellIn (machine_sets p family) memory row cell
    number_in memory row (Number n) h = tt
    number_in memory row Unset h = absurd h
    number_in memory row Null h = absurd h
    number_in memory row (Pointer i path past) h = absurd h
    number_in memory row (FunctionCell key) h = absurd h

    numbers_in : (memory : List Instance) (row : List PathStep → Option ℕ) (cells : CellList) → EachCell (λ path cell. IsNumber cell) cells → EachCell (λ path cell. CellIn (machine_sets p family) memory (row path) cell) cells
    numbers_in memory row cells h =
        each_change (λ path cell. IsNumber cell) (λ path cell. CellIn (machine_sets p family) memory (row path) cell) cells (λ path cell x. number_in memory (row path) cell x) h

    pub plain_in : (memory : List Instance) (row : ℕ → ℕ) (whole : Option Reached) (cells : CellList) → EachCell (λ path cell. IsNumber cell) cells → CellsIn (machine_sets p family) memory row whole cells
    plain_in memory row whole cells h = numbers_in memory (λ path. pointer_row row (part_at (machine_table p) whole path)) cells h

    object_in : (memory : List Instance) (l : ℕ) (x : Location) (inst : Instance) → slice_get (locations_in p) l ≡ Some x → object_of (machine_trees p) (library_ids (length p.types.terms)) x.key ≡ Some inst → InstanceIn (machine_sets p family) memory inst
    object_in memory l x inst at h =
        let own = contents_known p l x made at in
        let s = shaped x.key inst x.content h own.0 in
        let first = first_some 0 l (locations_in p) x x.key at refl in
        let here = (is_first (locations_in p) x.key first.0 first.1).here in
        let facts = contents_known p first.0 here.0 made here.1 in
        record {
          first = first.0;
          location = here.0;
          first_is = ap (first_from 0 (locations_in p)) s.key_is ∙ first.1;
          location_is = here.1;
          shape = s.shape here.0.content (subst (λ (k : ObjectKey). IsMadeOf p k here.0.content) here.2 facts.0) facts.1;
          untyped = λ none. inl (subst (λ (k : ObjectKey). IsTrue (is_allocated k)) (sym s.key_is) (s.untyped none));
          further = λ f. absurd (s.further (subst IsFurther s.key_is f));
          cells = numbers_in memory (cell_row (machine_table p) inst here.0.content first.0) inst.cells s.plain;
        }

    -- each object before anything points from one to another
    pub all_in : MemoryIn (machine_sets p family) (objects_after (machine_trees p) (library_ids (length p.types.terms)) None (locations_in p))
    all_in i inst e =
        let f = from_objects (machine_trees p) (library_ids (length p.types.terms)) None (locations_in p) inst i e in
        object_in (objects_after (machine_trees p) (library_ids (length p.types.terms)) None (locations_in p)) f.0 f.1 inst f.2 f.3
