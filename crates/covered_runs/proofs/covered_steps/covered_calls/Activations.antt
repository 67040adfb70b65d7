-- The objects of a function that a call reaches are covered by the call's arguments.
use Rattle.std.proofs.Common.{arith, ◌≡◌, ◌∙◌, inl, inr, ℕ, zero, suc, ◌+◌, ◌<◌, ◌≤◌, All, Bool, true, false, List, [], ◌∷◌, ◌++◌, drop, length, Option, Some, None, slice_get, slice_index_or, refl, sym, ap, subst}
use Rattle.std.specs.Prelude.{if◌then◌else◌}
use Rattle.std.specs.List.{AllZip}
use Rattle.std.specs.Option.{option_map}
use Rattle.std.proofs.lemmas.Bool.{false≢true}
use Rattle.std.proofs.lemmas.Option.{slice_get_within}
use Rattle.c_types.specs.declared.key.ObjectKey.{ObjectKey}
use Rattle.c_types.specs.declared.key.ObjectKey.TheVariants.{Entity as EntityKey, Varargs as VarargsKey}
use Rattle.c_types.specs.declared.term.TypeId.{TypeId}
use Rattle.c_types.specs.declared.term.Form.TheVariants.{Fixed, Variadic, Unspecified}
use Rattle.c_types.specs.Trees.{Ctype, Ctypes, NoTypes, MoreTypes, VoidType, IntegerType, VaListType, PointerTo, FunctionFrom, StructureOf, UnionOf, trees_at}
use Rattle.c_types.specs.Table.{type_of, types_of}
use Rattle.type_rules.specs.Kinds.{IsStored, IsPassed}
use Rattle.core_tree.specs.declared.node.Entity.{Entity}
use Rattle.core_tree.specs.declared.node.Node.{Node}
use Rattle.core_tree.specs.declared.node.NodeKind.{NodeKind}
use Rattle.core_tree.specs.Rows.{RowOf, CallRow, Calls, Arguments, IsFurther}
use Rattle.core_tree.specs.Typed.{CoreTrees, NoNode, ValueNode, sort_in, type_in, type_at}
use Rattle.sol_model.specs.declared.system.Function.{Function}
use Rattle.obj_made.specs.declared.object.Content.{Content}
use Rattle.obj_made.specs.declared.object.Content.TheVariants.{Blob, Elements}
use Rattle.obj_space.specs.declared.location.Location.{Location}
use Rattle.obj_space.specs.View.{first_from}
use Rattle.row_numbers.specs.Functions.{key_type, parameters_of, type_or_void}
use Rattle.row_numbers.specs.Setting.{takes_further}
use Rattle.call_sites.specs.Signatures.{called_type, calling_type}
use Rattle.call_sites.specs.Calls.{head_of, rest_of, ids_of, count_of, variadic_count, calls_upto, IsCallSite, IsSiteAt}
use Rattle.normal_form.specs.Facts.{IsFunctionFact}
use Rattle.ref_cells.specs.declared.cells.Cell.{Cell}
use Rattle.ref_cells.specs.declared.cells.Value.{Value}
use Rattle.ref_cells.specs.declared.instance.Instance.{Instance}
use Rattle.ref_cells.specs.Cells.{CellList}
use Rattle.ref_cells.specs.Wholes.{whole_of}
use Rattle.ref_mem.specs.Arguments.{under_index, argument_cells, arguments_object}
use Rattle.ref_frames.specs.Frames.{parameter_object, parameter_objects, further_objects}
use Rattle.covering_laws.specs.covered_types.Calls.{type_from, parameter_types, AreCallsRight}
use Rattle.covering_laws.proofs.covered_types.Calls.{calls_fit}
use Rattle.covering_laws.specs.covered_memory.Cells.{EachCell}
use Rattle.covering_laws.specs.covered_memory.Covered.{CellIn, ValueIn, HasShape, InstanceIn}
use Rattle.covering_laws.specs.covered_memory.Demands.{IsWhole}
use Rattle.covering_laws.proofs.covered_memory.Cells.{each_append}
use Rattle.covering_laws.specs.covered_rows.Nodes.{HeldIn, IsWithin}
use Rattle.covering_laws.proofs.covered_rows.Calls.{parameter_in}
use Rattle.covering_laws.proofs.covered_rows.Further.{further_in}
use Rattle.covering_laws.proofs.covered_rows.Targets.{function_there}
use Rattle.covering_laws.specs.covered_state.Awaited.{IsBare}
use Rattle.covering_laws.specs.covered_state.World.{World, trees_of, view_in, sets_of, setting_in}
use Rattle.covering_laws.specs.covered_state.Items.{Each, ArgumentsIn}
use Rattle.covering_laws.proofs.covered_state.Stays.{each_change, each_append as all_append}
use Rattle.covered_runs.specs.covered_steps.covered_values.Values.{Stands}
use Rattle.covered_runs.proofs.covered_steps.Made.{parameters_covered}
use Rattle.covered_runs.specs.covered_steps.covered_calls.Activations.{Reaches, IsParameterOf, HaveTypes, HasFurther, IsMet, ActivationsCovered}

pub none_some : {X : Type 0} → {x : X} → ◌≡◌ {A = Option X} None (Some x) → ⊥
none_some h = cc

pub some_one : {X : Type 0} → {x y : X} → ◌≡◌ {A = Option X} (Some x) (Some y) → x ≡ y
some_one h = cc

some_none : {X : Type 0} → {x : X} → ◌≡◌ {A = Option X} (Some x) None → ⊥
some_none h = cc

pub zip_at : {A B : Type 0} (R : A → B → Type 0) (xs : List A) (ys : List B) (i : ℕ) (x : A) (y : B) → AllZip R xs ys → slice_get xs i ≡ Some x → slice_get ys i ≡ Some y → R x y
zip_at R [] ys i x y h a b = absurd (none_some a)
zip_at R (z ∷ xs) [] i x y h a b = absurd h
zip_at {A = A} {B = B} R (z ∷ xs) (v ∷ ys) zero x y h a b = subst (λ (q : B). R x q) (some_one b) (subst (λ (q : A). R q v) (some_one a) h.0)
zip_at R (z ∷ xs) (v ∷ ys) (suc i) x y h a b = zip_at R xs ys i x y h.1 a b

-- a variadic function has as many parameters as the type of its call
count_from : (ts : Ctypes) (k : ℕ) (t : Ctype) → type_from ts k ≡ Some t → k < count_of ts
count_from NoTypes k t h = absurd (none_some h)
count_from (MoreTypes x rest) zero t h = omega arith
count_from (MoreTypes x rest) (suc k) t h = (let lt = count_from rest k t h in omega (arith, lt))

called_count : (t : Ctype) (arguments : Ctypes) (count : ℕ) → variadic_count t ≡ Some count → count_of (parameter_types (calling_type t arguments)) ≡ count
called_count (PointerTo (FunctionFrom result parameters Variadic)) arguments count e = some_one e
called_count t arguments count e = absurd (none_some e)

-- so an argument whose parameter has a type stands in front of all that is passed past the parameters
pub within_of : (t : Ctype) (arguments : Ctypes) (k : ℕ) (s : Ctype) → type_from (parameter_types (calling_type t arguments)) k ≡ Some s → (count : ℕ) → variadic_count t ≡ Some count → k < count
within_of t arguments k s is count e =
    let its = called_count t arguments count e in
    let lt = count_from (parameter_types (calling_type t arguments)) k s is in
    omega (arith, its, lt)

none_value : NoNode ≡ ValueNode → ⊥
none_value h = cc

blob_elements : {id : TypeId} → {c : Content} → c ≡ Blob → c ≡ Elements id → ⊥
blob_elements a b = cc

variadic_fixed : {a b : Ctype} → {xs ys : Ctypes} → FunctionFrom a xs Variadic ≡ FunctionFrom b ys Fixed → ⊥
variadic_fixed h = cc

variadic_void : {a : Ctype} → {xs : Ctypes} → FunctionFrom a xs Variadic ≡ VoidType → ⊥
variadic_void h = cc

pub index_is : (xs : List ℕ) (k a d : ℕ) → slice_get xs k ≡ Some a → slice_index_or xs k d ≡ a
index_is [] k a d e = absurd (none_some e)
index_is (x ∷ xs) zero a d e = some_one e
index_is (x ∷ xs) (suc k) a d e = index_is xs k a d e

-- a variadic function is called through a pointer to one of its type
variadic_called : (own callee : Ctype) (arguments : Ctypes) → takes_further own ≡ true → called_type own ≡ calling_type callee arguments
    → (r : Ctype) × (ps : Ctypes) × (own ≡ FunctionFrom r ps Variadic) × (callee ≡ PointerTo (FunctionFrom r ps Variadic))
variadic_called (FunctionFrom r ps Variadic) callee arguments h e = (r, ps, refl, by callee e)
  where
    by : (c : Ctype) → FunctionFrom r ps Variadic ≡ calling_type c arguments → c ≡ PointerTo (FunctionFrom r ps Variadic)
    by (PointerTo (FunctionFrom a b Unspecified)) e = absurd (variadic_fixed e)
    by (PointerTo t) e = ap PointerTo (sym e)
    by c e = absurd (variadic_void e)
variadic_called own callee arguments h e = absurd (false≢true h)

-- what is passed past the parameters has a type that is stored
passed_stored : (t : Ctype) → IsPassed t → IsStored t
passed_stored (IntegerType size rank signed) h = inl (inl tt)
passed_stored (PointerTo to) h = inl (inr tt)
passed_stored (StructureOf tag) h = inr (inl tt)
passed_stored (UnionOf tag) h = inr (inl tt)
passed_stored VaListType h = inr (inr tt)
passed_stored t h = absurd h

passed_at : (u : CoreTrees) (ps : Ctypes) (arguments : List ℕ) (k a : ℕ) → Arguments u ps Variadic arguments → count_of ps ≤ k → slice_get arguments k ≡ Some a → IsFurther u a
passed_at u NoTypes arguments k a h le e = subst (λ (x : ℕ). IsFurther u x) (index_is arguments k a 0 e) (h k 0 (slice_get_within arguments k a e))
passed_at u (MoreTypes t rest) [] k a h le e = absurd (none_some e)
passed_at u (MoreTypes t rest) (x ∷ arguments) zero a h le e = absurd (omega (arith, le))
passed_at u (MoreTypes t rest) (x ∷ arguments) (suc k) a h le e = passed_at u rest arguments k a h.1 (omega (arith, le)) e

passed_in : (u : CoreTrees) (r : Ctype) (ps : Ctypes) (t : Ctype) (children : List ℕ) → CallRow u t children → type_at u (head_of children) ≡ PointerTo (FunctionFrom r ps Variadic) → (k a : ℕ) → count_of ps ≤ k
    → slice_get (rest_of children) k ≡ Some a → IsFurther u a
passed_in u r ps t [] row callee k a le e = absurd (none_some e)
passed_in u r ps t (c ∷ arguments) row callee k a le e = passed_at u ps arguments k a (subst (λ (s : Ctype). Calls u s t arguments) callee row.1).1 le e

-- a fact of the cells of values, whatever their paths
module _ (P : Cell → Type 0) where
  each_indexed : (i : ℕ) (xs : CellList) → EachCell (λ path c. P c) xs → EachCell (λ path c. P c) (under_index i xs)
  each_indexed i [] h = tt
  each_indexed i (e ∷ xs) h = (h.0, each_indexed i xs h.1)

  arguments_each : (i : ℕ) (values : List Value) → Each (λ v. EachCell (λ path c. P c) v.cells) values → EachCell (λ path c. P c) (argument_cells i values)
  arguments_each i [] h = tt
  arguments_each i (v ∷ values) h = each_append (λ path c. P c) (under_index i v.cells) (argument_cells (i + 1) values) (each_indexed i v.cells h.0) (arguments_each (i + 1) values h.1)

module _ (world : World) (stands : Stands world) where
  -- such an argument has a complete type with few nodes
  whole_at : (a : ℕ) → IsFurther (trees_of world) a → IsWhole world.program.types (type_at (trees_of world) a)
  whole_at a h = by (slice_get (trees_of world).nodes a) refl h.0 h.1
    where
      by : (o : Option Node) → slice_get (trees_of world).nodes a ≡ o → sort_in o ≡ ValueNode → IsPassed (type_in world.program.types (slice_get (trees_of world).nodes a)) → IsWhole world.program.types (type_in world.program.types (slice_get (trees_of world).nodes a))
      by None is sort passed = absurd (none_value sort)
      by (Some x) is sort passed =
          subst (λ (o : Option Node). IsWhole world.program.types (type_in world.program.types o)) (sym is)
          (stands.whole.stored a x is sort (passed_stored (type_of world.program.types x.ty.0) (subst (λ (o : Option Node). IsPassed (type_in world.program.types o)) is passed)))

  -- the object of what is passed past the parameters has no type, but none waits for one either
  further_bare : (f : ℕ) (arguments : List Value) → HasFurther world f → IsBare world (arguments_object (VarargsKey f) arguments) → ⊥
  further_bare f arguments own b =
      let first : b.first ≡ own.first = some_one (sym b.first_is ∙ own.first_is) in
      let location : b.location ≡ own.location = some_one (sym b.location_is ∙ (ap (slice_get world.space) first ∙ own.location_is)) in
      blob_elements (ap (λ (l : Location). l.content) location ∙ own.content_is) b.content_is

module _ (world : World) (stands : Stands world) (n : ℕ) (node : Node) (f : ℕ) (reaches : Reaches world n node f) where
  -- the call of the system
  of_call : IsCallSite (setting_in world) n node reaches.target.target.0
  of_call =
      let z = zip_at (IsSiteAt (setting_in world)) (calls_upto (trees_of world).nodes (length (trees_of world).nodes)) world.system.calls reaches.target.call n reaches.target.target.0 world.is_system.calls
      reaches.target.call_is reaches.target.target.2 in
      subst (λ (x : Node). IsCallSite (setting_in world) n x reaches.target.target.0) (some_one (sym z.there ∙ reaches.there)) z.right

  fact : IsFunctionFact (trees_of world) (view_in world) reaches.target.function (EntityKey f) reaches.target.target.1
  fact =
      let own = function_there world.program world.space world.system world.is_system reaches.target.function (EntityKey f) reaches.target.function_is in
      subst (λ (x : Function). IsFunctionFact (trees_of world) (view_in world) reaches.target.function (EntityKey f) x) (some_one (sym own.1 ∙ reaches.target.target.3.known)) own.2

  right : AreCallsRight world.program
  right = calls_fit world.program stands.rows

  module _ (memory : List Instance) where
    -- one parameter with its argument
    one_in : (k a : ℕ) (key : ObjectKey) (t : Ctype) (v : Value) → slice_get (rest_of node.children) k ≡ Some a → slice_get (parameters_of (trees_of world) (view_in world) f) k ≡ Some key
        → type_from (parameter_types (called_type (key_type (trees_of world) (EntityKey f)))) k ≡ Some t → (own : IsParameterOf world key t) → HeldIn (sets_of world) (setting_in world) memory a v
        → InstanceIn (sets_of world) memory (parameter_object (trees_of world) key v)
    one_in k a key t v a_is key_is t_is own h =
        subst (λ (x : ObjectKey). InstanceIn (sets_of world) memory (parameter_object (trees_of world) x v)) (sym own.key_is)
        (parameters_covered world memory own.e v own.place
        (subst (λ (s : Ctype). ValueIn (sets_of world) memory (λ i. own.place.first + i) s v) (sym own_type)
        (parameter_in world.program world.space world.system world.is_system world.family stands.closed stands.grounds reaches.target.call n node reaches.target.target.0 reaches.target.target.2 of_call
        reaches.target.function reaches.target.target.1 reaches.target.target.3 fact.library f k a own.place.first key t within fact.parameters a_is key_is own.type type_is
        (ap (first_from 0 world.space) own.key_is ∙ own.place.first_is) whole memory v h)))
      where
        entity_type : key_type (trees_of world) (EntityKey own.e) ≡ type_of world.program.types own.place.entity.ty.0
        entity_type = ap (λ (o : Option Entity). type_or_void world.program.types (option_map (λ (x : Entity). x.ty) o)) own.place.entity_is

        own_type : type_of world.program.types own.place.entity.ty.0 ≡ t
        own_type = sym entity_type ∙ (ap (key_type (trees_of world)) (sym own.key_is) ∙ own.type)

        whole : IsWhole world.program.types t
        whole = subst (IsWhole world.program.types) own_type (record { complete = own.place.complete; few = stands.few own.place.entity.ty.0 })

        within : IsWithin (trees_of world) (head_of node.children) k
        within =
            within_of (type_at (trees_of world) (head_of node.children)) (trees_at (types_of world.program.types) (ids_of (trees_of world).nodes (rest_of node.children))) k t
            (subst (λ (s : Ctype). type_from (parameter_types s) k ≡ Some t) reaches.fits t_is)

        type_is : type_at (trees_of world) a ≡ t
        type_is = ((right.reached n node (key_type (trees_of world) (EntityKey f)) reaches.there reaches.kind reaches.fits).arguments k a t a_is t_is).1

    -- what is behind the first so many
    abbrev Behind : {X : Type 0} → ℕ → List X → List X → Type 0
    Behind {X} k all rest = (j : ℕ) (x : X) → slice_get rest j ≡ Some x → slice_get all (k + j) ≡ Some x

    next : {X : Type 0} (k : ℕ) (all : List X) (x : X) (rest : List X) → Behind k all (x ∷ rest) → Behind (suc k) all rest
    next k all x rest h j y e = (let same : suc k + j ≡ k + suc j = omega arith in ap (slice_get all) same ∙ h (suc j) y e)

    here : {X : Type 0} (k : ℕ) (all : List X) (x : X) (rest : List X) → Behind k all (x ∷ rest) → slice_get all k ≡ Some x
    here k all x rest h = (let same : k ≡ k + 0 = omega arith in ap (slice_get all) same ∙ h 0 x refl)

    abbrev IsMade : Instance → Type 0
    IsMade inst = InstanceIn (sets_of world) memory inst × (inst.ty ≡ None → ⊥)

    typed_so : (key : ObjectKey) (t : Ctype) (v : Value) → IsParameterOf world key t → (parameter_object (trees_of world) key v).ty ≡ None → ⊥
    typed_so key t v own none =
        let is : (parameter_object (trees_of world) (EntityKey own.e) v).ty ≡ None = subst (λ (x : ObjectKey). (parameter_object (trees_of world) x v).ty ≡ None) own.key_is none in
        some_none (sym (ap (λ (o : Option Entity). option_map (λ (x : Entity). x.ty) o) own.place.entity_is) ∙ is)

    all_in : (types : HaveTypes world (parameters_of (trees_of world) (view_in world) f) (parameter_types (called_type (key_type (trees_of world) (EntityKey f))))) → (k : ℕ) (keys : List ObjectKey) (nodes : List ℕ) (values : List Value)
        → Behind k (parameters_of (trees_of world) (view_in world) f) keys → Behind k (rest_of node.children) nodes → ArgumentsIn world memory nodes values → length values ≤ length nodes
        → Each IsMade (parameter_objects (trees_of world) keys values)
    all_in types k [] nodes values keys_at nodes_at h short = tt
    all_in types k (key ∷ keys) nodes [] keys_at nodes_at h short = tt
    all_in types k (key ∷ keys) [] (v ∷ values) keys_at nodes_at h short = absurd (omega arith)
    all_in types k (key ∷ keys) (a ∷ nodes) (v ∷ values) keys_at nodes_at h short =
        let key_is = here k (parameters_of (trees_of world) (view_in world) f) key keys keys_at in
        let own = types k key key_is in (
          (one_in k a key own.0 v (here k (rest_of node.children) a nodes nodes_at) key_is own.1 own.2 h.0, typed_so key own.0 v own.2),
          all_in types (suc k) keys nodes values (next k (parameters_of (trees_of world) (view_in world) f) key keys keys_at) (next k (rest_of node.children) a nodes nodes_at) h.1 (omega arith),
        )

    -- what is passed past the parameters
    module _ (further : takes_further (key_type (trees_of world) (EntityKey f)) ≡ true) (count_is : length (parameters_of (trees_of world) (view_in world) f) ≡ count_of (parameter_types (called_type (key_type (trees_of world) (EntityKey f)))))
        (own : HasFurther world f) where
      abbrev count : ℕ
      count = length (parameters_of (trees_of world) (view_in world) f)

      abbrev IsPast : Value → Type 0
      IsPast v = EachCell (λ path c. CellIn (sets_of world) memory (Some own.first) c) v.cells

      form : (r : Ctype) × (ps : Ctypes) × (key_type (trees_of world) (EntityKey f) ≡ FunctionFrom r ps Variadic) × (type_at (trees_of world) (head_of node.children) ≡ PointerTo (FunctionFrom r ps Variadic))
      form =
          variadic_called (key_type (trees_of world) (EntityKey f)) (type_at (trees_of world) (head_of node.children)) (trees_at (types_of world.program.types) (ids_of (trees_of world).nodes (rest_of node.children))) further reaches.fits

      many : count ≡ count_of form.1
      many = count_is ∙ ap (λ (t : Ctype). count_of (parameter_types (called_type t))) form.2

      variadic : variadic_count (type_at (trees_of world) (head_of node.children)) ≡ Some count
      variadic = ap variadic_count form.3 ∙ ap (λ (c : ℕ). Some c) (sym many)

      row : CallRow (trees_of world) (type_of world.program.types node.ty.0) node.children
      row = subst (λ (k : NodeKind). RowOf (trees_of world) k (type_of world.program.types node.ty.0) node.children) reaches.kind (stands.rows n node reaches.there)

      one_past : (k a : ℕ) (v : Value) → count ≤ k → slice_get (rest_of node.children) k ≡ Some a → HeldIn (sets_of world) (setting_in world) memory a v → IsPast v
      one_past k a v le a_is h =
          further_in world.program world.space world.system world.is_system world.family stands.closed stands.grounds reaches.target.call n node reaches.target.target.0 reaches.target.target.2 of_call reaches.target.function reaches.target.target.1
          reaches.target.target.3 fact.library reaches.there reaches.kind f count k a own.first variadic further fact.parameters refl own.first_is le a_is
          (whole_at world stands a (passed_in (trees_of world) form.0 form.1 (type_of world.program.types node.ty.0) node.children row form.3 k a (subst (λ (c : ℕ). c ≤ k) many le) a_is)) memory v h

      all_past : (k : ℕ) (nodes : List ℕ) (values : List Value) → count ≤ k → Behind k (rest_of node.children) nodes → ArgumentsIn world memory nodes values → length values ≤ length nodes → Each IsPast values
      all_past k nodes [] le nodes_at h short = tt
      all_past k [] (v ∷ values) le nodes_at h short = absurd (omega (arith, short))
      all_past k (a ∷ nodes) (v ∷ values) le nodes_at h short = (
        one_past k a v le (here k (rest_of node.children) a nodes nodes_at) h.0,
        all_past (suc k) nodes values (omega (arith, le)) (next k (rest_of node.children) a nodes nodes_at) h.1 (omega (arith, short)),
      )

      past : (d k : ℕ) (nodes : List ℕ) (values : List Value) → count ≤ k + d → Behind k (rest_of node.children) nodes → ArgumentsIn world memory nodes values → length values ≤ length nodes → Each IsPast (drop d values)
      past zero k nodes values le nodes_at h short = all_past k nodes values (omega (arith, le)) nodes_at h short
      past (suc d) k nodes [] le nodes_at h short = tt
      past (suc d) k [] (v ∷ values) le nodes_at h short = absurd (omega (arith, short))
      past (suc d) k (a ∷ nodes) (v ∷ values) le nodes_at h short = past d (suc k) nodes values (omega (arith, le)) (next k (rest_of node.children) a nodes nodes_at) h.1 (omega (arith, short))

      object_in : (values : List Value) → Each IsPast values → InstanceIn (sets_of world) memory (arguments_object (VarargsKey f) values)
      object_in values h = record {
        first = own.first;
        location = own.location;
        first_is = own.first_is;
        location_is = own.location_is;
        shape = subst (λ (c : Content). HasShape world.program.types c (whole_of world.program.types (arguments_object (VarargsKey f) values))) (sym own.content_is) (inl refl);
        untyped = λ none. inr tt;
        further = λ is. (refl, own.content_is);
        cells = arguments_each (CellIn (sets_of world) memory (Some own.first)) 0 values h;
      }

    abbrev IsDone : Instance → Type 0
    IsDone inst = InstanceIn (sets_of world) memory inst × (IsBare world inst → ⊥)

    further_made : (met : IsMet world f) (arguments : List Value) → ArgumentsIn world memory (rest_of node.children) arguments → length arguments ≤ length (rest_of node.children)
        → Each IsDone (further_objects (key_type (trees_of world) (EntityKey f)) f (drop (length (parameters_of (trees_of world) (view_in world) f)) arguments))
    further_made met arguments h short = by (takes_further (key_type (trees_of world) (EntityKey f))) refl
      where
        by : (b : Bool) → takes_further (key_type (trees_of world) (EntityKey f)) ≡ b → Each IsDone (if b then arguments_object (VarargsKey f) (drop (length (parameters_of (trees_of world) (view_in world) f)) arguments) ∷ [] else [])
        by false is = tt
        by true is =
            let own = met.further is in (
              (
                object_in is met.count own (drop (length (parameters_of (trees_of world) (view_in world) f)) arguments)
                    (past is met.count own (length (parameters_of (trees_of world) (view_in world) f)) 0 (rest_of node.children) arguments (omega arith)
                    (λ j x e. (let same : 0 + j ≡ j = omega arith in ap (slice_get (rest_of node.children)) same ∙ e)) h short),
                further_bare world stands f (drop (length (parameters_of (trees_of world) (view_in world) f)) arguments) own,
              ),
              tt,
            )

each_first : {X : Type 0} (P Q : X → Type 0) (xs : List X) → Each (λ x. P x × Q x) xs → Each P xs × Each Q xs
each_first P Q [] h = (tt, tt)
each_first P Q (x ∷ rest) h = let r = each_first P Q rest h.1 in ((h.0.0, r.0), (h.0.1, r.1))

pub activations_covered : ActivationsCovered
activations_covered world memory n node f arguments stands reaches met h short =
    let keys : List ObjectKey = parameters_of (trees_of world) (view_in world) f in
    let own : List Instance = parameter_objects (trees_of world) keys arguments in
    let further : List Instance = further_objects (key_type (trees_of world) (EntityKey f)) f (drop (length keys) arguments) in
    let made : Each (λ inst. InstanceIn (sets_of world) memory inst × (IsBare world inst → ⊥)) own =
    each_change (λ inst. InstanceIn (sets_of world) memory inst × (inst.ty ≡ None → ⊥)) (λ inst. InstanceIn (sets_of world) memory inst × (IsBare world inst → ⊥)) (λ inst x. (x.0, λ b. x.1 b.untyped)) own
    (all_in world stands n node f reaches memory met.typed 0 keys (rest_of node.children) arguments (λ j x e. (let same : 0 + j ≡ j = omega arith in ap (slice_get keys) same ∙ e))
    (λ j x e. (let same : 0 + j ≡ j = omega arith in ap (slice_get (rest_of node.children)) same ∙ e)) h short) in
    each_first (InstanceIn (sets_of world) memory) (λ inst. IsBare world inst → ⊥) (own ++ further)
    (all_append (λ inst. InstanceIn (sets_of world) memory inst × (IsBare world inst → ⊥)) own further made (further_made world stands n node f reaches memory met arguments h short))
