-- What the row of a pending call takes of the world and of the state is there.
use Rattle.std.proofs.Common.{arith, ◌≡◌, ◌∙◌, inl, inr, ℕ, zero, suc, ◌+◌, ◌<◌, ◌≤◌, ◌&&◌, ◌||◌, not, Bool, true, false, cond, nat_eq, eqb, List, [], ◌∷◌, length, find, Option, Some, None, slice_get, Contains, refl, sym, ap, subst}
use Rattle.std.specs.Prelude.{if◌then◌else◌}
use Rattle.std.specs.List.{cons_option, list_any}
use Rattle.std.specs.Option.{option_map, option_map_or}
use Rattle.std.proofs.lemmas.Bool.{false≢true, cases_Bool}
use Rattle.std.proofs.lemmas.Bool.Decides.{eqb_tells}
use Rattle.std.proofs.lemmas.Option.{slice_get_within}
use Rattle.c_types.specs.declared.key.ObjectKey.{ObjectKey}
use Rattle.c_types.specs.declared.key.ObjectKey.TheVariants.{Call as CallKey, Star as StarKey, Function as FunctionKey}
use Rattle.c_types.specs.declared.term.Form.{Form}
use Rattle.c_types.specs.declared.term.Form.TheVariants.{Fixed, Variadic, Unspecified}
use Rattle.c_types.specs.declared.term.TypeId.{TypeId}
use Rattle.c_types.specs.Trees.{Ctype, Ctypes, NoTypes, MoreTypes, PointerTo, FunctionFrom, trees_at}
use Rattle.c_types.specs.Table.{type_of, types_of}
use Rattle.type_rules.specs.Kinds.{IsScalar}
use Rattle.type_rules.specs.Conversions.{result_of}
use Rattle.core_tree.specs.declared.node.Node.{Node}
use Rattle.core_tree.specs.declared.node.NodeKind.{NodeKind}
use Rattle.core_tree.specs.Rows.{RowOf, Calls, Arguments, CallRow}
use Rattle.core_tree.specs.Typed.{CoreTrees, type_in, type_at}
use Rattle.sol_model.specs.declared.system.Function.{Function}
use Rattle.obj_made.specs.declared.object.Content.{Content}
use Rattle.obj_made.specs.declared.object.Content.TheVariants.{Blob, Scalars}
use Rattle.obj_made.specs.Uses.{is_allocator}
use Rattle.obj_space.specs.declared.location.Location.{Location}
use Rattle.obj_space.specs.Parts.{type_number}
use Rattle.obj_space.specs.View.{SpaceView, first_from, view_of}
use Rattle.lib_summaries.specs.Table.{effects_of}
use Rattle.link_names.specs.Together.{is_listed}
use Rattle.row_numbers.specs.Functions.{begins_at, object_at, function_keys, functions_below, functions_of, key_type}
use Rattle.call_sites.specs.Signatures.{called_type, calling_type}
use Rattle.call_sites.specs.Calls.{calls_upto, head_of, rest_of, ids_of, named_library, is_named, is_giving, object_by, IsCallSite, IsSiteAt}
use Rattle.normal_form.specs.Facts.{IsFunctionFact}
use Rattle.ref_cells.specs.declared.cells.Value.{Value}
use Rattle.ref_cells.specs.declared.instance.Instance.{Instance}
use Rattle.ref_mem.specs.Reads.{one_cell}
use Rattle.ref_elements.specs.Arguments.{scalar_of}
use Rattle.ref_lib.specs.declared.rows.Making.TheVariants.{Malloc, Calloc, Realloc, Perhaps, Object, Place, Classes}
use Rattle.ref_lib.specs.declared.rows.Elements.TheVariants.{CopyBytes, SetBytes, Search, Strtol, Sort, Find}
use Rattle.ref_lib.specs.declared.rows.Texts.TheVariants.{CopyText, AddText, CopyPart, Duplicate, Line}
use Rattle.ref_lib.specs.declared.rows.Row.{Row}
use Rattle.ref_lib.specs.declared.rows.Row.TheVariants.{Makes, Moves, Writes}
use Rattle.ref_lib.specs.Effects.{rows}
use Rattle.ref_state.specs.declared.items.Item.{Item}
use Rattle.ref_state.specs.declared.items.Item.TheVariants.{Library}
use Rattle.ref_state.specs.declared.frames.Frame.{Frame}
use Rattle.ref_state.specs.declared.state.State.{State}
use Rattle.ref_frames.specs.Running.{location_in, element_in, element_by, element_type}
use Rattle.ref_calls.specs.Library.{named_by, object_of}
use Rattle.covering_laws.specs.covered_types.Calls.{type_from, parameter_types, call_type, AreCallsRight, IsCallOf}
use Rattle.covering_laws.proofs.covered_types.Calls.{calls_fit}
use Rattle.covering_laws.specs.covered_memory.Covered.{HasShape as HasContentShape, MemoryIn}
use Rattle.covering_laws.specs.covered_rows.Nodes.{IsArgument, HeldIn}
use Rattle.covering_laws.proofs.covered_rows.Targets.{function_there}
use Rattle.covering_laws.specs.covered_library.Calls.{IsFresh, IsScalars, Calling, IsGiven, HasArgument, IsFreshHere, IsFixedHere, TakesAny, IsTextHere, Needs}
use Rattle.covering_laws.specs.covered_library.Laws.{IsLibraryCall, calling, MeetsNeeds}
use Rattle.covering_laws.specs.covered_needs.Needs.{NamesMet, IsDirectCall, MakesBare}
use Rattle.covering_laws.proofs.covered_needs.Named.{row_finds, row_gives, got, names_met}
use Rattle.covering_laws.proofs.covered_needs.Fresh.{fresh_met, text_met}
use Rattle.covering_laws.proofs.covered_needs.Arguments.{argument_met}
use Rattle.covering_laws.specs.covered_state.World.{World, trees_of, view_in, sets_of, setting_in}
use Rattle.covering_laws.specs.covered_state.Items.{ArgumentsIn}
use Rattle.covering_laws.specs.covered_state.Awaited.{AwaitedIn}
use Rattle.covering_laws.proofs.covered_state.Awaited.{takes_any}
use Rattle.covered_runs.specs.covered_steps.covered_values.Values.{Stands}
use Rattle.covered_runs.proofs.covered_steps.covered_calls.Activations.{none_some, some_one, zip_at, within_of}
use Rattle.covered_runs.proofs.covered_steps.covered_calls.Results.{kept_at_place}
use Rattle.covered_runs.specs.covered_steps.covered_effects.Served.{solved, running_in, IsOfShape, IsStarObject, IsServed, Reaches}
use Rattle.covered_runs.proofs.covered_steps.covered_effects.Told.{TakesPointer, GivesPointer, Told, row_told}

-- which rows make a new object
abbrev makes_new : Row → Bool
makes_new (Makes Malloc) = true
makes_new (Makes Calloc) = true
makes_new (Makes Realloc) = true
makes_new (Writes Duplicate) = true
makes_new row = false

abbrev makes_text : Row → Bool
makes_text (Writes Duplicate) = true
makes_text row = false

-- they are those of the allocating functions, and strdup's is that of characters
abbrev row_fits : ℕ → Row → Bool
row_fits n row = not (makes_new row) || (is_allocator n && (if nat_eq n 21 then makes_text row else not (makes_text row)))

abbrev rows_fit : ℕ → List Row → Bool
rows_fit n [] = true
rows_fit n (row ∷ rest) = row_fits n row && rows_fit (suc n) rest

all_fit : rows_fit 0 rows ≡ true
unfolding rows
all_fit = refl

first_true : (a b : Bool) → (a && b) ≡ true → a ≡ true
first_true true b e = refl
first_true false b e = absurd (false≢true e)

second_true : (a b : Bool) → (a && b) ≡ true → b ≡ true
second_true true b e = e
second_true false b e = absurd (false≢true e)

fit_at : (n : ℕ) (list : List Row) (k : ℕ) (row : Row) → rows_fit n list ≡ true → slice_get list k ≡ Some row → row_fits (n + k) row ≡ true
fit_at n [] k row e at = absurd (none_some at)
fit_at n (x ∷ rest) zero row e at =
    (let z : n + 0 ≡ n = omega arith in ap (λ (m : ℕ). row_fits m row) z) ∙ (ap (row_fits n) (sym (some_one at)) ∙ first_true (row_fits n x) (rows_fit (suc n) rest) e)
fit_at n (x ∷ rest) (suc k) row e at =
    (let z : n + suc k ≡ suc n + k = omega arith in ap (λ (m : ℕ). row_fits m row) z) ∙ fit_at (suc n) rest k row (second_true (row_fits n x) (rows_fit (suc n) rest) e) at

-- the number of a row that makes a new object
makes_by : (a b c : Bool) → a ≡ true → (not a || (b && c)) ≡ true → (b ≡ true) × (c ≡ true)
makes_by true b c is e = (first_true b c e, second_true b c e)
makes_by false b c is e = absurd (false≢true is)

row_number : (k : ℕ) (row : Row) → slice_get rows k ≡ Some row → makes_new row ≡ true → (is_allocator k ≡ true) × ((if nat_eq k 21 then makes_text row else not (makes_text row)) ≡ true)
row_number k row at is =
    makes_by (makes_new row) (is_allocator k) (if nat_eq k 21 then makes_text row else not (makes_text row)) is
    (sym (let z : 0 + k ≡ k = omega arith in ap (λ (m : ℕ). row_fits m row) z) ∙ fit_at 0 rows k row all_fit at)

is_text : (b c : Bool) → c ≡ true → (if b then c else not c) ≡ true → b ≡ true
is_text true c is e = refl
is_text false c is e = absurd (false≢true (ap not (sym is) ∙ e))

no_text : (b c : Bool) → c ≡ false → (if b then c else not c) ≡ true → b ≡ false
no_text false c is e = refl
no_text true c is e = absurd (false≢true (sym is ∙ e))

pub rows_below : (k : ℕ) (row : Row) → slice_get rows k ≡ Some row → k < 55
unfolding rows
rows_below k row at = slice_get_within rows k row at

pub called_listed : (t : Ctype) → is_listed t ≡ true → called_type t ≡ t
called_listed (FunctionFrom r ps Fixed) l = refl
called_listed (FunctionFrom r ps Variadic) l = refl
called_listed (FunctionFrom r ps Unspecified) l = absurd (false≢true l)
called_listed t l = absurd (false≢true l)

-- there is an argument for each parameter of the type by which a function is called
get_some : {X : Type 0} (xs : List X) (k : ℕ) → k < length xs → (x : X) × (slice_get xs k ≡ Some x)
get_some [] k lt = absurd (omega arith)
get_some (x ∷ xs) zero lt = (x, refl)
get_some (x ∷ xs) (suc k) lt = get_some xs k (omega arith)

module _ (u : CoreTrees) where
  ids_few : (args : List ℕ) → length (ids_of u.nodes args) ≤ length args
  ids_few [] = omega arith
  ids_few (a ∷ args) = by (option_map (λ (node : Node). node.ty) (slice_get u.nodes a)) (ids_few args)
    where
      by : (o : Option TypeId) → length (ids_of u.nodes args) ≤ length args → length (cons_option o (ids_of u.nodes args)) ≤ length (a ∷ args)
      by None h = omega arith
      by (Some id) h = omega arith

  listed_within : (ts : List Ctype) (ids : List TypeId) (k : ℕ) (t : Ctype) → type_from (trees_at ts ids) k ≡ Some t → k < length ids
  listed_within ts [] k t is = absurd (none_some is)
  listed_within ts (id ∷ ids) zero t is = omega arith
  listed_within ts (id ∷ ids) (suc k) t is = (let lt = listed_within ts ids k t is in omega arith)

  argument_there : (ps : Ctypes) (f : Form) (args : List ℕ) → Arguments u ps f args → (k : ℕ) (t : Ctype) → type_from ps k ≡ Some t → (a : ℕ) × (slice_get args k ≡ Some a)
  argument_there NoTypes f args h k t is = absurd (none_some is)
  argument_there (MoreTypes s rest) Fixed [] h k t is = absurd h
  argument_there (MoreTypes s rest) Variadic [] h k t is = absurd h
  argument_there (MoreTypes s rest) Unspecified args h k t is = absurd h
  argument_there (MoreTypes s rest) Fixed (a ∷ args) h zero t is = (a, refl)
  argument_there (MoreTypes s rest) Variadic (a ∷ args) h zero t is = (a, refl)
  argument_there (MoreTypes s rest) Fixed (a ∷ args) h (suc k) t is = argument_there rest Fixed args h.1 k t is
  argument_there (MoreTypes s rest) Variadic (a ∷ args) h (suc k) t is = argument_there rest Variadic args h.1 k t is

  called_there : (r : Ctype) (ps : Ctypes) (f : Form) (args : List ℕ) → Arguments u ps f args → (k : ℕ) (t : Ctype)
      → type_from (parameter_types (calling_type (PointerTo (FunctionFrom r ps f)) (trees_at (types_of u.types) (ids_of u.nodes args)))) k ≡ Some t → (a : ℕ) × (slice_get args k ≡ Some a)
  called_there r ps Fixed args h k t is = argument_there ps Fixed args h k t is
  called_there r ps Variadic args h k t is = argument_there ps Variadic args h k t is
  called_there r ps Unspecified args h k t is =
      (let lt = listed_within (types_of u.types) (ids_of u.nodes args) k t is in let few = ids_few args in get_some args k (omega arith))

  by_callee : (callee t : Ctype) (args : List ℕ) → Calls u callee t args → (k : ℕ) (s : Ctype) → type_from (parameter_types (calling_type callee (trees_at (types_of u.types) (ids_of u.nodes args)))) k ≡ Some s → (a : ℕ) × (slice_get args k ≡ Some a)
  by_callee (PointerTo (FunctionFrom r ps f)) t args h k s is = called_there r ps f args h.1 k s is
  by_callee callee t args h k s is = absurd h

  child_there : (t : Ctype) (children : List ℕ) → CallRow u t children → (k : ℕ) (s : Ctype)
      → type_from (parameter_types (calling_type (type_at u (head_of children)) (trees_at (types_of u.types) (ids_of u.nodes (rest_of children))))) k ≡ Some s → (a : ℕ) × (slice_get (rest_of children) k ≡ Some a)
  child_there t [] h k s is = absurd h
  child_there t (c ∷ args) h k s is = by_callee (type_at u c) t args h.1 k s is

-- what a test finds passes it
found_passes : (test : ObjectKey → Bool) (xs : List ObjectKey) (x : ObjectKey) → find test xs ≡ Some x → test x ≡ true
found_passes test [] x e = absurd (none_some e)
found_passes test (y ∷ rest) x e = by (test y) refl e (found_passes test rest x)
  where
    by : (b : Bool) → test y ≡ b → cond b (Some y) (find test rest) ≡ Some x → (find test rest ≡ Some x → test x ≡ true) → test x ≡ true
    by true is f next = ap test (sym (some_one f)) ∙ is
    by false is f next = next f

begins_inv : (o : Option ℕ) (l : ℕ) → option_map_or (λ (first : ℕ). eqb first l) o false ≡ true → o ≡ Some l
begins_inv None l e = absurd (false≢true e)
begins_inv (Some k) l e = elim (eqb_tells k l) [ inl same ↦ ap (λ (j : ℕ). Some j) same.1 | inr other ↦ absurd (false≢true (sym other.0 ∙ e)) ]

-- a function of the world has its first location
pub function_first : (u : CoreTrees) (s : SpaceView) (number : ℕ) (key : ObjectKey) → slice_get (functions_of u s) number ≡ Some key → (l : ℕ) × (s.first key ≡ Some l)
unfolding functions_below
function_first u s number key e =
    let r = kept_at_place (object_at s (function_keys u)) 0 s.count number key e in
    let here : object_at s (function_keys u) r.at ≡ Some key = (let same : r.at ≡ 0 + r.at = omega arith in ap (object_at s (function_keys u)) same) ∙ r.here in
    (r.at, begins_inv (s.first key) r.at (found_passes (begins_at s r.at) (function_keys u) key here))

-- the arguments of a pending call, place by place
arguments_at : (world : World) (memory : List Instance) (nodes : List ℕ) (values : List Value) (k a : ℕ) (v : Value) → ArgumentsIn world memory nodes values → slice_get nodes k ≡ Some a → slice_get values k ≡ Some v
    → HeldIn (sets_of world) (setting_in world) memory a v
arguments_at world memory [] values k a v h at there = absurd (none_some at)
arguments_at world memory (b ∷ nodes) [] k a v h at there = absurd (none_some there)
arguments_at world memory (b ∷ nodes) (w ∷ values) zero a v h at there =
    subst (λ (n : ℕ). HeldIn (sets_of world) (setting_in world) memory n v) (some_one at) (subst (λ (x : Value). HeldIn (sets_of world) (setting_in world) memory b x) (some_one there) h.0)
arguments_at world memory (b ∷ nodes) (w ∷ values) (suc k) a v h at there = arguments_at world memory nodes values k a v h.1 at there

module _ (world : World) (stands : Stands world) (characters : TypeId) (served : IsServed world stands characters) (n k : ℕ) (reaches : Reaches world n k) where
  abbrev own : Ctype
  own = key_type (trees_of world) (FunctionKey k)

  -- the call of the system
  pub of_call : IsCallSite (setting_in world) n reaches.node reaches.target.target.0
  of_call =
      let z = zip_at (IsSiteAt (setting_in world)) (calls_upto (trees_of world).nodes (length (trees_of world).nodes)) world.system.calls reaches.target.call n reaches.target.target.0 world.is_system.calls
      reaches.target.call_is reaches.target.target.2 in
      subst (λ (x : Node). IsCallSite (setting_in world) n x reaches.target.target.0) (some_one (sym z.there ∙ reaches.there)) z.right

  pub fact : IsFunctionFact (trees_of world) (view_in world) reaches.target.function (FunctionKey k) reaches.target.target.1
  fact =
      let f = function_there world.program world.space world.system world.is_system reaches.target.function (FunctionKey k) reaches.target.function_is in
      subst (λ (x : Function). IsFunctionFact (trees_of world) (view_in world) reaches.target.function (FunctionKey k) x) (some_one (sym f.1 ∙ reaches.target.target.3.known)) f.2

  pub library_call : IsLibraryCall (solved world stands) n reaches.node reaches.target.target.0 reaches.target.function reaches.target.target.1 k
  library_call = record { number = reaches.target.call; at = reaches.target.target.2; of_call = of_call; is_target = reaches.target.target.3; fact = fact }

  right : AreCallsRight world.program
  right = calls_fit world.program stands.rows

  pub call_is : IsCallOf (trees_of world) reaches.node own
  call_is = right.reached n reaches.node own reaches.there reaches.kind reaches.type

  pub gives_type : type_at (trees_of world) n ≡ result_of own
  gives_type = ap (type_in world.program.types) reaches.there ∙ sym call_is.result

  -- the shape of the function, where it has a row
  pub shape : k < 55 → IsOfShape (trees_of world) k
  shape lt = (let l = function_first (trees_of world) (view_in world) reaches.target.function (FunctionKey k) reaches.target.function_is in served.shapes k l.0 lt l.1)

  call_row : CallRow (trees_of world) (type_of world.program.types reaches.node.ty.0) reaches.node.children
  call_row = subst (λ (x : NodeKind). RowOf (trees_of world) x (type_of world.program.types reaches.node.ty.0) reaches.node.children) reaches.kind (stands.rows n reaches.node reaches.there)

  callee_first : (children : List ℕ) (t : Ctype) → CallRow (trees_of world) t children → slice_get children 0 ≡ Some (head_of children)
  callee_first [] t h = absurd h
  callee_first (c ∷ rest) t h = refl

  module _ (state : State) (f : Frame) (rest : List Frame) (arguments : List Value) (items : List Item) (awaited : AwaitedIn world state) (frames_are : state.frames ≡ f ∷ rest) (items_are : f.items ≡ Library n k arguments ∷ items)
      (memory_in : MemoryIn (sets_of world) state.memory) (arguments_in : ArgumentsIn world state.memory (rest_of reaches.node.children) arguments) where
    abbrev pub key : ObjectKey
    key = object_of (trees_of world) n k

    abbrev pub fixed : Option TypeId
    fixed = element_type (running_in world characters) key

    abbrev pub here : Calling
    here = calling (solved world stands) state.memory n reaches.node reaches.target.target.0 reaches.target.function key fixed arguments

    pub given : GivesPointer own → IsGiven here
    given g = (g.0, gives_type ∙ g.1)

    pub has_argument : (listed : is_listed own ≡ true) (i : ℕ) → TakesPointer own i → HasArgument here i
    has_argument listed i p =
        let same = called_listed own listed in
        let from : type_from (parameter_types (call_type (trees_of world) reaches.node)) i ≡ Some (PointerTo p.0) = ap (λ (t : Ctype). type_from (parameter_types t) i) (sym reaches.type ∙ same) ∙ p.1 in
        let a = child_there (trees_of world) (type_of world.program.types reaches.node.ty.0) reaches.node.children call_row i (PointerTo p.0) from in
        let typed = call_is.arguments i a.0 (PointerTo p.0) a.1 (ap (λ (t : Ctype). type_from (parameter_types t) i) same ∙ p.1) in
        let within = within_of (type_at (trees_of world) (head_of reaches.node.children)) (trees_at (types_of world.program.types) (ids_of (trees_of world).nodes (rest_of reaches.node.children))) i (PointerTo p.0) from in
        by (slice_get arguments i) refl a.0 p.0 (a.1, within) typed.1
      where
        by : (o : Option Value) → slice_get arguments i ≡ o → (a : ℕ) (t : Ctype) → IsArgument (trees_of world) reaches.node i a → type_at (trees_of world) a ≡ PointerTo t → HasArgument here i
        by (Some v) is a t at ty = argument_met here i a t v at is ty (arguments_at world state.memory (rest_of reaches.node.children) arguments i a v arguments_in at.0 is)
        by None is a t at ty = (a, t, at, ty, subst (λ (o : Option Value). HeldIn (sets_of world) (setting_in world) state.memory a (one_cell (scalar_of o))) (sym is) (tt, tt))

    takes : TakesAny here
    takes id i x at h untyped = takes_any world state awaited f rest frames_are n k arguments items items_are id i x at h untyped

    names : NamesMet (solved world stands) reaches.target.target.0 reaches.target.function state.memory k
    names = names_met (solved world stands) n reaches.node reaches.target.target.0 reaches.target.function reaches.target.target.1 k state.memory library_call served.objects memory_in

    -- the object of the call
    named_here : is_named (named_library (trees_of world) reaches.node) k ≡ true → named_library (trees_of world) reaches.node ≡ Some k
    named_here e = by (named_library (trees_of world) reaches.node) e
      where
        by : (o : Option ℕ) → is_named o k ≡ true → o ≡ Some k
        by None e = absurd (false≢true e)
        by (Some m) e = elim (eqb_tells m k) [ inl same ↦ ap (λ (j : ℕ). Some j) same.1 | inr other ↦ absurd (false≢true (sym other.0 ∙ e)) ]

    pub key_by : (b : Bool) → is_named (named_library (trees_of world) reaches.node) k ≡ b → key ≡ cond b (CallKey n) (StarKey k)
    key_by b e =
        ap (λ (o : Option Node). cond (is_named (named_by (trees_of world) o) k) (CallKey n) (StarKey k)) reaches.there ∙ ap (λ (c : Bool). cond c (CallKey n) (StarKey k)) e

    direct : is_named (named_library (trees_of world) reaches.node) k ≡ true → IsDirectCall (solved world stands) n reaches.node k
    direct e = record { there = reaches.there; kind = reaches.kind; callee = callee_first reaches.node.children (type_of world.program.types reaches.node.ty.0) call_row; named = named_here e }

    starred : is_named (named_library (trees_of world) reaches.node) k ≡ false → is_allocator k ≡ true → IsStarObject world k
    starred e allocates = elim (served.spread n k reaches.node reaches.there reaches.target allocates) [
      | inl named ↦ absurd (false≢true (sym e ∙ (ap (λ (o : Option ℕ). is_named o k) named ∙ self k)))
      | inr star ↦ served.stars k allocates star
    ]
      where
        self : (m : ℕ) → is_named (Some m) m ≡ true
        self m = elim (eqb_tells m m) [ inl same ↦ same.0 | inr other ↦ absurd (other.1 refl) ]

    -- what the call gets from its function, where it doesn't name it
    star_got : (row : Row) → slice_get rows k ≡ Some row → makes_new row ≡ true → is_named (named_library (trees_of world) reaches.node) k ≡ false → (star : IsStarObject world k)
        → Contains {X = ℕ × ℕ} reaches.target.target.0.fresh (reaches.target.function, star.first)
    star_got row at new e star = by row at new
      where
        chosen : cond (is_named (named_library (trees_of world) reaches.node) k) ((view_of world.space).first (CallKey n)) ((view_of world.space).first (StarKey k)) ≡ Some star.first
        chosen = ap (λ (b : Bool). cond b ((view_of world.space).first (CallKey n)) ((view_of world.space).first (StarKey k))) e ∙ star.first_is

        gets : list_any is_giving (effects_of k) ≡ true → object_by (view_of world.space) n (named_library (trees_of world) reaches.node) k (effects_of k) ≡ Some star.first
            → Contains {X = ℕ × ℕ} reaches.target.target.0.fresh (reaches.target.function, star.first)
        gets giving object = got (solved world stands) n reaches.node reaches.target.target.0 reaches.target.function reaches.target.target.1 k library_call star.first giving object

        by : (r : Row) → slice_get rows k ≡ Some r → makes_new r ≡ true → Contains {X = ℕ × ℕ} reaches.target.target.0.fresh (reaches.target.function, star.first)
        by (Makes Malloc) is b = gets (row_gives k (Makes Malloc) is) (row_finds k (Makes Malloc) is (view_of world.space) n (named_library (trees_of world) reaches.node) k ∙ chosen)
        by (Makes Calloc) is b = gets (row_gives k (Makes Calloc) is) (row_finds k (Makes Calloc) is (view_of world.space) n (named_library (trees_of world) reaches.node) k ∙ chosen)
        by (Makes Realloc) is b = gets (row_gives k (Makes Realloc) is) (row_finds k (Makes Realloc) is (view_of world.space) n (named_library (trees_of world) reaches.node) k ∙ chosen)
        by (Writes Duplicate) is b = gets (row_gives k (Writes Duplicate) is) (row_finds k (Writes Duplicate) is (view_of world.space) n (named_library (trees_of world) reaches.node) k ∙ chosen)
        by r is b = absurd (false≢true b)

    star_fresh : nat_eq k 21 ≡ false → (star : IsStarObject world k) → IsFresh (sets_of world) (StarKey k)
    star_fresh plain star = record {
      first = star.first;
      location = star.location;
      first_is = star.first_is;
      location_is = star.location_is;
      shape = subst (λ (c : Content). HasContentShape world.program.types c None) (sym (star.content_is ∙ ap (λ (b : Bool). let c : Content = cond b (Scalars 0) Blob in c) plain)) (inl refl);
      allocated = refl;
    }

    -- an object without a type
    fresh : (row : Row) → slice_get rows k ≡ Some row → MakesBare row → makes_new row ≡ true → makes_text row ≡ false → IsFreshHere here
    unfolding star_fresh
    fresh row at bare new plain = elim (cases_Bool (is_named (named_library (trees_of world) reaches.node) k)) [
      | inl named ↦
          subst (λ (o : ObjectKey). (x : IsFresh (sets_of world) o) × Contains {X = ℕ × ℕ} reaches.target.target.0.fresh (reaches.target.function, x.first)) (sym (key_by true named))
          (fresh_met (solved world stands) n reaches.node reaches.target.target.0 reaches.target.function reaches.target.target.1 k row library_call (direct named) served.calls at bare)
      | inr other ↦
          let number = row_number k row at new in
          let star = starred other number.0 in
          subst (λ (o : ObjectKey). (x : IsFresh (sets_of world) o) × Contains {X = ℕ × ℕ} reaches.target.target.0.fresh (reaches.target.function, x.first)) (sym (key_by false other))
          (star_fresh (no_text (nat_eq k 21) (makes_text row) plain number.1) star, star_got row at new other star)
    ]

    -- the type of the object's elements is fixed where the object is made of some
    pub element_is : (first : ℕ) (location : Location) → first_from 0 world.space key ≡ Some first → slice_get world.space first ≡ Some location → fixed ≡ element_in characters location.content
    element_is first location first_is location_is =
        ap (λ (o : Option ℕ). element_by characters (location_in world.space o)) first_is ∙ ap (element_by characters) location_is

    fixed_here : (x : IsFreshHere here) → IsFixedHere here x.0.location.content
    fixed_here x other is = (other, element_is x.0.first x.0.location x.0.first_is x.0.location_is ∙ ap (element_in characters) is, refl)

    -- an object of characters
    text : slice_get rows k ≡ Some (Writes Duplicate) → IsTextHere here
    text at = elim (cases_Bool (is_named (named_library (trees_of world) reaches.node) k)) [
      | inl named ↦
          with_scalars
          (subst (λ (o : ObjectKey). (x : IsScalars (sets_of world) o characters) × Contains {X = ℕ × ℕ} reaches.target.target.0.fresh (reaches.target.function, x.first)) (sym (key_by true named))
          (text_met (solved world stands) n reaches.node reaches.target.target.0 reaches.target.function reaches.target.target.1 k library_call (direct named) served.calls at characters served.characters_are))
      | inr other ↦
          let number = row_number k (Writes Duplicate) at refl in
          let star = starred other number.0 in
          let content : star.location.content ≡ Scalars 0 = star.content_is ∙ ap (λ (b : Bool). let c : Content = cond b (Scalars 0) Blob in c) (is_text (nat_eq k 21) true refl number.1) in
          with_scalars
          (subst (λ (o : ObjectKey). (x : IsScalars (sets_of world) o characters) × Contains {X = ℕ × ℕ} reaches.target.target.0.fresh (reaches.target.function, x.first)) (sym (key_by false other)) (
            record {
              first = star.first;
              location = star.location;
              first_is = star.first_is;
              location_is = star.location_is;
              scalar = 0;
              content_is = content;
              is_scalar = subst IsScalar (sym served.characters_are) (inl tt);
              scalar_is = ap type_number served.characters_are;
              allocated = refl;
            },
            star_got (Writes Duplicate) at refl other star,
          ))
    ]
      where
        with_scalars : (x : IsScalars (sets_of world) key characters) × Contains {X = ℕ × ℕ} reaches.target.target.0.fresh (reaches.target.function, x.first) → IsTextHere here
        with_scalars (x, has) = (characters, element_is x.first x.location x.first_is x.location_is ∙ ap (element_in characters) x.content_is, x, has)

    needs_by : (row : Row) → slice_get rows k ≡ Some row → is_listed own ≡ true → Told row own → Needs here row
    needs_by (Makes Malloc) at listed told = (given told, fresh (Makes Malloc) at tt refl refl)
    needs_by (Makes Calloc) at listed told = (given told, fresh (Makes Calloc) at tt refl refl)
    needs_by (Makes Realloc) at listed told = (let x = fresh (Makes Realloc) at tt refl refl in (given told.0, has_argument listed 0 told.1, x, fixed_here x))
    needs_by (Makes (Perhaps position)) at listed told = (given told, names.perhaps position at)
    needs_by (Makes (Object position)) at listed told = (given told, names.object position at)
    needs_by (Makes (Place position)) at listed told = (given told, names.place position at)
    needs_by (Makes Classes) at listed told = (given told, names.classes at)
    needs_by (Moves CopyBytes) at listed told = (given told.0, has_argument listed 0 told.1, has_argument listed 1 told.2, takes)
    needs_by (Moves SetBytes) at listed told = (given told.0, has_argument listed 0 told.1)
    needs_by (Moves Search) at listed told = (given told.0, has_argument listed 0 told.1)
    needs_by (Moves Strtol) at listed told = (has_argument listed 0 told.0, has_argument listed 1 told.1)
    needs_by (Moves Sort) at listed told = has_argument listed 0 told.0
    needs_by (Moves Find) at listed told = (given told.0, has_argument listed 0 told.1, has_argument listed 1 told.2)
    needs_by (Writes CopyText) at listed told = (given told.0, has_argument listed 0 told.1)
    needs_by (Writes AddText) at listed told = (given told.0, has_argument listed 0 told.1)
    needs_by (Writes CopyPart) at listed told = (given told.0, has_argument listed 0 told.1)
    needs_by (Writes Line) at listed told = (given told.0, has_argument listed 0 told.1)
    needs_by (Writes Duplicate) at listed told = (given told, text at)
    needs_by row at listed told = tt

    -- What a row takes is there.
    pub needs_met : MeetsNeeds here k
    needs_met row at = (let o = shape (rows_below k row at) in needs_by row at o.listed (row_told k row o.row own at o.row_is o.shape o.listed))
