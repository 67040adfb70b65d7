-- A call that enters a function with a body keeps the state covered and stacked.
use Rattle.std.proofs.Common.{◌≡◌, ◌∙◌, ℕ, zero, suc, ◌<◌, ◌&&◌, Bool, true, false, cond, List, [], ◌∷◌, ◌++◌, drop, map, length, append-nil, Option, Some, None, Result, Ok, Err, IsSome, slice_get, refl, sym, ap, subst}
use Rattle.std.specs.Prelude.{IfSome, if◌then◌else◌}
use Rattle.std.specs.Option.{option_map}
use Rattle.std.proofs.lemmas.Bool.{false≢true}
use Rattle.std.proofs.lemmas.Option.{slice_get_within}
use Rattle.c_types.specs.declared.key.ObjectKey.{ObjectKey}
use Rattle.c_types.specs.declared.key.ObjectKey.TheVariants.{Entity as EntityKey, Varargs as VarargsKey}
use Rattle.c_types.specs.declared.term.TypeId.{TypeId}
use Rattle.c_types.specs.Trees.{Ctype, VoidType, BoolType, IntegerType, FloatingType, VaListType, PointerTo, ArrayOf, FunctionFrom, StructureOf, UnionOf, Ctypes, NoTypes, MoreTypes}
use Rattle.c_types.specs.Table.{Table, type_of, extent_in}
use Rattle.core_tree.specs.declared.node.Entity.{Entity}
use Rattle.core_tree.specs.declared.node.Node.{Node}
use Rattle.core_tree.specs.declared.node.NodeKind.{NodeKind}
use Rattle.core_tree.specs.declared.node.NodeKind.TheVariants.{Block}
use Rattle.core_tree.specs.declared.node.Storage.{Storage}
use Rattle.core_tree.specs.declared.node.Storage.TheVariants.{Static, Automatic, FunctionBody, Parameter, Declared}
use Rattle.core_tree.specs.Range.{here}
use Rattle.core_tree.specs.Typed.{CoreTrees}
use Rattle.core_tree.specs.Valid.{IsBlock, IsBlockIn, UnderBody}
use Rattle.obj_made.specs.declared.object.Content.TheVariants.{Typed}
use Rattle.obj_made.specs.Made.{entity_content}
use Rattle.obj_space.specs.declared.location.Location.{Location}
use Rattle.obj_space.specs.View.{first_from}
use Rattle.row_numbers.specs.Objects.{entity_key}
use Rattle.row_numbers.specs.Functions.{key_id, type_or_void, key_type, parameters_of}
use Rattle.row_numbers.specs.Setting.{takes_further}
use Rattle.call_sites.specs.Signatures.{called_type}
use Rattle.call_sites.specs.Calls.{rest_of, count_of}
use Rattle.ref_cells.specs.declared.cells.Reason.{Reason}
use Rattle.ref_cells.specs.declared.cells.Reason.TheVariants.{Mismatch}
use Rattle.ref_cells.specs.declared.cells.Value.{Value}
use Rattle.ref_cells.specs.declared.instance.Instance.{Instance}
use Rattle.ref_mem.specs.Arguments.{arguments_object}
use Rattle.ref_elements.proofs.SameTypes.{type_true}
use Rattle.ref_state.specs.declared.items.Item.TheVariants.{Do}
use Rattle.ref_state.specs.Values.{value_in}
use Rattle.ref_blocks.specs.Ways.{kind_in}
use Rattle.ref_frames.specs.declared.entering.Activation.{Activation}
use Rattle.ref_frames.specs.declared.entering.Entry.{Entry}
use Rattle.ref_frames.specs.Frames.{parameter_objects, entered_objects, activation, list_of, is_typed, have_types, called_list, activation_by, activation_of, entered}
use Rattle.ref_frames.specs.OnTop.{on_top}
use Rattle.covering_laws.specs.covered_types.Calls.{type_from, parameter_types}
use Rattle.covering_laws.specs.covered_memory.Covered.{Extends}
use Rattle.covering_laws.proofs.covered_memory.Firsts.{is_first}
use Rattle.covering_laws.specs.covered_state.World.{World, trees_of, view_in, sets_of}
use Rattle.covering_laws.specs.covered_state.Items.{IsOwned}
use Rattle.covered_runs.proofs.covered_steps.covered_values.Above.{get_before}
use Rattle.covered_runs.proofs.covered_steps.covered_values.Operands.{ok_one, err_ok}
use Rattle.covered_runs.specs.covered_steps.Made.{HasPlace}
use Rattle.covered_runs.proofs.covered_steps.Owned.{owned_under}
use Rattle.covered_runs.specs.covered_steps.covered_calls.Activations.{HaveTypes, IsMet, objects_entered}
use Rattle.covered_runs.proofs.covered_steps.covered_calls.Entering.{steps_called}
use Rattle.covered_runs.specs.covered_steps.covered_statements.Stacked.{PendingOn, top_node, Stacked, FramesStand}
use Rattle.covered_runs.specs.covered_steps.covered_statements.Runnable.{IsRunnable, Steady}
use Rattle.covered_runs.specs.covered_steps.covered_statements.Rows.{running_in, CallsSteady}
use Rattle.covered_runs.proofs.covered_steps.covered_statements.Plain.{is_plain}
use Rattle.covered_runs.proofs.covered_steps.covered_statements.Stacking.{plain_stands}
use Rattle.covered_runs.proofs.covered_steps.covered_statements.Pending.{frames_stacked}
use Rattle.covered_runs.proofs.covered_steps.covered_statements.Keys.{HasBody, function_body, parameter_there}

some_one : {X : Type 0} → {x y : X} → ◌≡◌ {A = Option X} (Some x) (Some y) → x ≡ y
some_one h = cc

none_some : {X : Type 0} → {x : X} → ◌≡◌ {A = Option X} None (Some x) → ⊥
none_some h = cc

parameter_body : Parameter ≡ FunctionBody → ⊥
parameter_body h = cc

and_both : (a b : Bool) → (a && b) ≡ true → (a ≡ true) × (b ≡ true)
and_both true b h = (refl, h)
and_both false b h = absurd (false≢true h)

-- The types that are tested are those of the parameters.

typed_key : (table : Table) (o : Option TypeId) (t : Ctype) → is_typed table o t ≡ true → type_or_void table o ≡ t
typed_key table None t h = absurd (false≢true h)
typed_key table (Some id) t h = type_true (type_of table id.0) t h

types_met : (u : CoreTrees) (keys : List ObjectKey) (types : Ctypes) → have_types u keys types ≡ true → (k : ℕ) (key : ObjectKey) → slice_get keys k ≡ Some key → (t : Ctype) × (type_from types k ≡ Some t) × (key_type u key ≡ t)
types_met u [] NoTypes h k key at = absurd (none_some at)
types_met u [] (MoreTypes t types) h k key at = absurd (none_some at)
types_met u (x ∷ keys) NoTypes h k key at = absurd (false≢true h)
types_met u (x ∷ keys) (MoreTypes t types) h zero key at =
    (t, refl, subst (λ (y : ObjectKey). key_type u y ≡ t) (some_one at) (typed_key u.types (key_id u x) t (and_both (is_typed u.types (key_id u x) t) (have_types u keys types) h).0))
types_met u (x ∷ keys) (MoreTypes t types) h (suc k) key at =
    types_met u keys types (and_both (is_typed u.types (key_id u x) t) (have_types u keys types) h).1 k key at

-- they are as many as these
types_count : (u : CoreTrees) (keys : List ObjectKey) (types : Ctypes) → have_types u keys types ≡ true → length keys ≡ count_of types
types_count u [] NoTypes h = refl
types_count u [] (MoreTypes t types) h = absurd (false≢true h)
types_count u (x ∷ keys) NoTypes h = absurd (false≢true h)
types_count u (x ∷ keys) (MoreTypes t types) h = ap (λ (n : ℕ). suc n) (types_count u keys types (and_both (is_typed u.types (key_id u x) t) (have_types u keys types) h).1)

list_same : (t : Ctype) → list_of t ≡ parameter_types t
list_same VoidType = refl
list_same BoolType = refl
list_same (IntegerType size rank signed) = refl
list_same FloatingType = refl
list_same VaListType = refl
list_same (PointerTo to) = refl
list_same (ArrayOf of n) = refl
list_same (FunctionFrom r ps f) = refl
list_same (StructureOf tag) = refl
list_same (UnionOf tag) = refl

block_plain : (kind : NodeKind) → IsBlock kind → is_plain kind ≡ true
block_plain (Block entities) h = refl
block_plain kind h = absurd h

block_in_plain : (o : Option Node) → IsBlockIn o → is_plain (kind_in o) ≡ true
block_in_plain None h = absurd h
block_in_plain (Some node) h = block_plain node.kind h

-- instances that are made leave those before them as they were
pub more_extends : (world : World) (memory fresh : List Instance) → Extends (sets_of world) memory (memory ++ fresh)
more_extends world memory fresh i a at =
    (a, get_before memory fresh i (slice_get_within memory i a at) ∙ at, record { key = refl; in_tree = λ p x. x; whole = λ t x. x })

module _ (world : World) (runs : IsRunnable world) where
  -- an entity that is an object with a location
  pub has_place : (e l : ℕ) (x : Entity) → slice_get (trees_of world).entities e ≡ Some x → (x.storage ≡ FunctionBody → ⊥) → first_from 0 world.space (EntityKey e) ≡ Some l → HasPlace world e
  has_place e l x there object first = record {
    entity = x;
    entity_is = there;
    first = l;
    location = begin.0;
    first_is = first;
    location_is = begin.1;
    content_is = own.2 ∙ (ap (λ (y : Entity). entity_content y.storage y.ty) same ∙ typed x.storage object);
    complete = subst (λ (y : Entity). IsSome (extent_in world.program.types (type_of world.program.types y.ty.0))) same (own.4 (λ is. object (ap (λ (y : Entity). y.storage) (sym same) ∙ is)));
  }
    where
      begin : (y : Location) × (slice_get world.space l ≡ Some y) × (y.key ≡ EntityKey e)
      begin = (is_first world.space (EntityKey e) l first).here

      own : (entity : Entity) × (slice_get (trees_of world).entities e ≡ Some entity) × (begin.0.content ≡ entity_content entity.storage entity.ty) × (entity_key e (Some entity) ≡ EntityKey e)
          × ((entity.storage ≡ FunctionBody → ⊥) → IsSome (extent_in world.program.types (type_of world.program.types entity.ty.0)))
      own = runs.objects e l begin.0 first begin.1

      same : own.0 ≡ x
      same = some_one (sym own.1 ∙ there)

      typed : (s : Storage) → (s ≡ FunctionBody → ⊥) → entity_content s x.ty ≡ Typed x.ty
      typed FunctionBody h = absurd (h refl)
      typed Static h = refl
      typed Automatic h = refl
      typed Parameter h = refl
      typed Declared h = refl

  -- the parameters of a function that is entered
  pub parameters_met : (g : ℕ) (types : Ctypes) → have_types (trees_of world) (parameters_of (trees_of world) (view_in world) g) types ≡ true → HaveTypes world (parameters_of (trees_of world) (view_in world) g) types
  parameters_met g types h k key at =
      let t = types_met (trees_of world) (parameters_of (trees_of world) (view_in world) g) types h k key at in
      let own = parameter_there (trees_of world) (view_in world) g k key at in (
        t.0,
        t.1,
        record {
          e = own.e;
          key_is = own.key_is;
          place = has_place own.e own.first own.entity own.there (λ is. parameter_body (sym own.storage ∙ is)) (subst (λ (y : ObjectKey). first_from 0 world.space y ≡ Some own.first) own.key_is own.first_is);
          type = t.2;
        },
      )

  -- a function's body stands in it, and is a block
  pub body_owned : (g b : ℕ) (x : Entity) → slice_get (trees_of world).entities g ≡ Some x → x.storage ≡ FunctionBody → x.body ≡ Some b → IsOwned world (EntityKey g) b
  body_owned g b x there storage body =
      owned_under world g b runs.once runs.tops runs.single x there storage (subst (λ (o : Option ℕ). UnderBody (trees_of world) o b) (sym body) here)
      (subst (λ (o : Option ℕ). IfSome o (λ k. k < length (trees_of world).nodes)) body (runs.range.bodies g x there))

  pub body_stands : (g b : ℕ) (x : Entity) → slice_get (trees_of world).entities g ≡ Some x → x.storage ≡ FunctionBody → x.body ≡ Some b → (memory : List Instance) → Stacked (trees_of world).nodes (PendingOn world memory) (Do b ∷ [])
  body_stands g b x there storage body memory =
      (tt, plain_stands (trees_of world).nodes b [] (block_in_plain (slice_get (trees_of world).nodes b) (runs.blocks g x there b storage body)) tt, tt)

-- what is entered: the function has a body, and its parameters have the types of its list
pub record IsEntered (world : World) (count : ℕ) (entry : Entry) (arguments : List Value) (made : Activation) : Type 0 where
  pub entity : Entity
  pub there : slice_get (trees_of world).entities entry.function ≡ Some entity
  pub body : ℕ
  pub body_is : entity.body ≡ Some body
  pub types : have_types (trees_of world) (parameters_of (trees_of world) (view_in world) entry.function) (called_list (trees_of world) entity) ≡ true
  pub made_is : activation entry count body (objects_entered world entry.function arguments) ≡ made

-- the type of an entity's function
entity_type : (world : World) (e : ℕ) (x : Entity) → slice_get (trees_of world).entities e ≡ Some x → key_type (trees_of world) (EntityKey e) ≡ type_of (trees_of world).types x.ty.0
entity_type world e x there = ap (λ (o : Option Entity). type_or_void world.program.types (option_map (λ (y : Entity). y.ty) o)) there

pub entered_inv : (world : World) (characters : TypeId) (count : ℕ) (entry : Entry) (arguments : List Value) (made : Activation) → entered (running_in world characters) count entry arguments ≡ Ok made → IsEntered world count entry arguments made
unfolding entered
entered_inv world characters count entry arguments made h = of_entity (slice_get (trees_of world).entities entry.function) refl h
  where
    over : (x : Entity) → slice_get (trees_of world).entities entry.function ≡ Some x → (b : ℕ) → x.body ≡ Some b → (t : Bool) → have_types (trees_of world) (parameters_of (trees_of world) (view_in world) entry.function) (called_list (trees_of world) x) ≡ t
        → (let r : Result Activation Reason = cond t (Ok (activation entry count b (entered_objects (trees_of world) (type_of (trees_of world).types x.ty.0) entry.function (parameters_of (trees_of world) (view_in world) entry.function) arguments))) (Err Mismatch) in r) ≡ Ok made
        → IsEntered world count entry arguments made
    over x there b body true is e =
        record {
          entity = x;
          there = there;
          body = b;
          body_is = body;
          types = is;
          made_is = ap (λ (t : Ctype). activation entry count b (entered_objects (trees_of world) t entry.function (parameters_of (trees_of world) (view_in world) entry.function) arguments)) (entity_type world entry.function x there) ∙ ok_one e;
        }
    over x there b body false is e = absurd (err_ok e)

    of_body : (x : Entity) → slice_get (trees_of world).entities entry.function ≡ Some x → (o : Option ℕ) → x.body ≡ o
        → activation_by (running_in world characters) count entry arguments (type_of (trees_of world).types x.ty.0) o ≡ Ok made → IsEntered world count entry arguments made
    of_body x there None is e = absurd (err_ok e)
    of_body x there (Some b) is e = over x there b is (have_types (trees_of world) (parameters_of (trees_of world) (view_in world) entry.function) (called_list (trees_of world) x)) refl e

    of_entity : (o : Option Entity) → slice_get (trees_of world).entities entry.function ≡ o → activation_of (running_in world characters) count entry arguments o ≡ Ok made → IsEntered world count entry arguments made
    of_entity None is e = absurd (err_ok e)
    of_entity (Some x) is e = of_body x is x.body refl e

-- a function that isn't variadic has objects of its parameters alone
pub plain_objects : (world : World) (f : ℕ) (arguments : List Value) → takes_further (key_type (trees_of world) (EntityKey f)) ≡ false → objects_entered world f arguments ≡ parameter_objects (trees_of world) (parameters_of (trees_of world) (view_in world) f) arguments
plain_objects world f arguments plain =
    let keys : List ObjectKey = parameters_of (trees_of world) (view_in world) f in
    let own : List Instance = parameter_objects (trees_of world) keys arguments in
    ap (λ (b : Bool). own ++ (if b then arguments_object (VarargsKey f) (drop (length keys) arguments) ∷ [] else [])) plain ∙ append-nil own

pub calls_steady : CallsSteady
calls_steady world state f rest n node g values items target characters made runs steady frames_are items_are reaches e noted =
    subst (λ (a : Activation). Steady world (on_top state (f ∷ rest) (record { target = target; stores = a.stores }) a)) inv.made_is
    (record {
      covered = steps_called world state f rest n node g inv.body values items target runs.stands steady.covered frames_are items_are reaches met (body_owned world runs g inv.body inv.entity inv.there storage inv.body_is) noted;
      stacked = (
        body_stands world runs g inv.body inv.entity inv.there storage inv.body_is (state.memory ++ objects_entered world g (map (value_in values) (rest_of node.children))),
        ap top_node items_are,
        frames_stacked world state.memory (state.memory ++ objects_entered world g (map (value_in values) (rest_of node.children)))
            (more_extends world state.memory (objects_entered world g (map (value_in values) (rest_of node.children)))) (f ∷ rest) (subst (FramesStand world state.memory) frames_are steady.stacked),
      );
    })
  where
    inv : IsEntered world (length state.memory) (record { function = g; call = Some n; by = None }) (map (value_in values) (rest_of node.children)) made
    inv = entered_inv world characters (length state.memory) (record { function = g; call = Some n; by = None }) (map (value_in values) (rest_of node.children)) made e

    own : HasBody (trees_of world) (EntityKey g)
    own = function_body (trees_of world) (view_in world) reaches.target.function (EntityKey g) reaches.target.function_is

    storage : inv.entity.storage ≡ FunctionBody
    storage = ap (λ (x : Entity). x.storage) (some_one (sym inv.there ∙ own.1)) ∙ own.2

    list_is : called_list (trees_of world) inv.entity ≡ parameter_types (called_type (key_type (trees_of world) (EntityKey g)))
    list_is = list_same (called_type (type_of world.program.types inv.entity.ty.0)) ∙ ap (λ (t : Ctype). parameter_types (called_type t)) (sym (entity_type world g inv.entity inv.there))

    met : IsMet world g
    met = record {
      typed = subst (HaveTypes world (parameters_of (trees_of world) (view_in world) g)) list_is (parameters_met world runs g (called_list (trees_of world) inv.entity) inv.types);
      count = types_count (trees_of world) (parameters_of (trees_of world) (view_in world) g) (called_list (trees_of world) inv.entity) inv.types ∙ ap count_of list_is;
      further = λ is. runs.further g inv.entity inv.there storage (ap takes_further (sym (entity_type world g inv.entity inv.there)) ∙ is);
    }
