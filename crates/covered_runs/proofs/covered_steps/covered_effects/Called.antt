-- What pending calls are of: their nodes, what they enter, what they call back, and what the end of frames leaves.
use Rattle.std.proofs.Common.{arith, ◌≡◌, ◌∙◌, inl, inr, ℕ, zero, suc, ◌+◌, ◌<◌, ◌&&◌, ◌||◌, not, ℤ, Bool, true, false, cond, nat_eq, List, [], ◌∷◌, ◌++◌, drop, length, length-set, append-nil, filter_map, Option, Some, None, Result, Ok, Err, slice_get, Contains, refl, sym, ap, subst}
use Rattle.std.specs.Prelude.{IsSome, if◌then◌else◌}
use Rattle.std.specs.List.{cons_option, range_with_len}
use Rattle.std.proofs.lemmas.Bool.{false≢true}
use Rattle.std.proofs.lemmas.Bool.Decides.{eqb_tells}
use Rattle.std.proofs.lemmas.Option.{slice_get_within}
use Rattle.c_types.specs.declared.key.ObjectKey.{ObjectKey}
use Rattle.c_types.specs.declared.key.ObjectKey.TheVariants.{Function as FunctionKey}
use Rattle.c_types.specs.declared.key.ObjectKey.TheVariants.{Varargs as VarargsKey}
use Rattle.c_types.specs.declared.term.Form.TheVariants.{Fixed, Variadic, Unspecified}
use Rattle.c_types.specs.declared.term.TypeId.{TypeId}
use Rattle.c_types.specs.Trees.{Ctype, NoTypes, MoreTypes, VoidType, PointerTo, BoolType, IntegerType, FloatingType, VaListType, ArrayOf, FunctionFrom, StructureOf, UnionOf}
use Rattle.c_types.specs.Table.{Table, type_of, extent_in}
use Rattle.type_rules.specs.Kinds.{IsScalar}
use Rattle.core_tree.specs.declared.node.Entity.{Entity}
use Rattle.core_tree.specs.declared.node.Node.{Node}
use Rattle.core_tree.specs.declared.node.NodeKind.{NodeKind}
use Rattle.core_tree.specs.declared.node.NodeKind.TheVariants.{CallNode}
use Rattle.core_tree.specs.Typed.{CoreTrees}
use Rattle.obj_made.specs.declared.object.Content.{Content}
use Rattle.obj_made.specs.declared.object.Content.TheVariants.{Blob, Scalars, Elements}
use Rattle.obj_made.specs.Made.{allocated_content}
use Rattle.obj_space.specs.View.{first_from, view_of}
use Rattle.row_numbers.specs.Functions.{key_id, type_or_void, key_type, parameters_of}
use Rattle.row_numbers.specs.Setting.{takes_further}
use Rattle.call_sites.specs.Signatures.{comparison, at_end, IsSignature, compares, ends, known, unknown, called_type}
use Rattle.call_sites.specs.Calls.{is_call, call_if}
use Rattle.ref_cells.specs.declared.cells.Reason.{Reason}
use Rattle.ref_cells.specs.declared.cells.Reason.TheVariants.{BadCall, Mismatch}
use Rattle.ref_cells.specs.declared.cells.Cell.{Cell}
use Rattle.ref_cells.specs.declared.cells.Cell.TheVariants.{Unset, Number, Null, Pointer, Function as FunctionCell}
use Rattle.ref_cells.specs.declared.cells.Value.{Value}
use Rattle.ref_cells.specs.declared.instance.Instance.{Instance}
use Rattle.ref_cells.specs.Wholes.{typed_whole}
use Rattle.ref_mem.specs.Arguments.{arguments_object}
use Rattle.ref_mem.specs.Writes.{changed}
use Rattle.ref_elements.specs.declared.outcome.Next.TheVariants.{Done, Again, Calls, Keeps, Ends}
use Rattle.ref_elements.specs.Outcomes.{Effected}
use Rattle.ref_elements.specs.Types.{same_type}
use Rattle.ref_elements.proofs.SameTypes.{type_true}
use Rattle.ref_lib.specs.declared.rows.Plain.TheVariants.{Keep}
use Rattle.ref_lib.specs.declared.rows.Row.{Row}
use Rattle.ref_lib.specs.declared.rows.Row.TheVariants.{Answers}
use Rattle.ref_lib.specs.Effects.{rows, effect}
use Rattle.ref_state.specs.declared.frames.Frame.{Frame}
use Rattle.ref_state.specs.Changes.{ended_one, ended_all}
use Rattle.ref_frames.specs.Running.{Running}
use Rattle.ref_frames.specs.declared.entering.Entry.{Entry}
use Rattle.ref_frames.specs.declared.entering.Activation.{Activation}
use Rattle.ref_frames.specs.Frames.{parameter_objects, further_objects, entered_objects, activation, is_typed, have_types, called_list, activation_by, activation_of, entered, all_ended, kept_after}
use Rattle.ref_calls.specs.Library.{comparison_of}
use Rattle.ref_calls.specs.Calls.{signature_of}
use Rattle.covering_laws.specs.covered_memory.Covered.{Sets, CellIn, GoesOn, Extends, Leaves, MemoryIn}
use Rattle.covering_laws.specs.covered_memory.Spots.{spot}
use Rattle.covering_laws.proofs.covered_memory.Stays.{same_memory, then_extends, cell_stays, cell_from_none}
use Rattle.covering_laws.specs.covered_library.Calls.{instance_row, place_row, StoresIn}
use Rattle.covering_laws.specs.covered_state.World.{World, trees_of, sets_of, IsCallAt}
use Rattle.covering_laws.specs.covered_state.Items.{Each, IsPendingBack}
use Rattle.covering_laws.specs.covered_state.Awaited.{IsBare}
use Rattle.covered_runs.specs.covered_steps.covered_values.Values.{Stands}
use Rattle.covered_runs.proofs.covered_steps.covered_values.Operands.{ok_one, err_ok}
use Rattle.covered_runs.specs.covered_steps.Steps.{NoneBare}
use Rattle.covered_runs.proofs.covered_steps.Made.{instances_ended}
use Rattle.covered_runs.proofs.covered_steps.covered_calls.Activations.{none_some, some_one}

pub some_none : {X : Type 0} → {x : X} → ◌≡◌ {A = Option X} (Some x) None → ⊥
some_none h = cc

-- a call of the system is at a call node
filter_found : {X Y : Type 0} (h : X → Option Y) (xs : List X) (i : ℕ) (y : Y) → slice_get (filter_map h xs) i ≡ Some y → (x : X) × (h x ≡ Some y)
filter_found h [] i y e = absurd (none_some e)
filter_found {X = X} {Y = Y} h (x ∷ xs) i y e = by (h x) refl i e (filter_found h xs)
  where
    by : (o : Option Y) → h x ≡ o → (i : ℕ) → slice_get (cons_option o (filter_map h xs)) i ≡ Some y → ((j : ℕ) (z : Y) → slice_get (filter_map h xs) j ≡ Some z → (w : X) × (h w ≡ Some z)) → (w : X) × (h w ≡ Some y)
    by None is i e f = f i y e
    by (Some z) is zero e f = (x, is ∙ e)
    by (Some z) is (suc i) e f = f i y e

kind_call : (kind : NodeKind) → is_call kind ≡ true → kind ≡ CallNode
kind_call CallNode e = refl
kind_call kind e = absurd (false≢true e)

call_by : (m n : ℕ) (o : Option Node) → call_if m o ≡ Some n → (node : Node) × (o ≡ Some node) × (node.kind ≡ CallNode) × (m ≡ n)
call_by m n None e = absurd (none_some e)
call_by m n (Some node) e = by (is_call node.kind) refl e
  where
    by : (b : Bool) → is_call node.kind ≡ b → (let r : Option ℕ = cond b (Some m) None in r) ≡ Some n → (x : Node) × (◌≡◌ {A = Option Node} (Some node) (Some x)) × (x.kind ≡ CallNode) × (m ≡ n)
    by true is g = (node, refl, kind_call node.kind is, some_one g)
    by false is g = absurd (none_some g)

pub call_kind : (world : World) (number n : ℕ) (node : Node) → IsCallAt world number n → slice_get (trees_of world).nodes n ≡ Some node → node.kind ≡ CallNode
call_kind world number n node at there =
    let f = filter_found (λ (m : ℕ). call_if m (slice_get (trees_of world).nodes m)) (range_with_len 0 (length (trees_of world).nodes)) number n at in
    let c = call_by f.0 n (slice_get (trees_of world).nodes f.0) f.1 in
    let same : c.0 ≡ node = some_one (sym c.1 ∙ (ap (slice_get (trees_of world).nodes) c.3 ∙ there)) in
    ap (λ (x : Node). x.kind) (sym same) ∙ c.2

-- a scalar type is complete
pub scalar_complete : (table : Table) (t : Ctype) → IsScalar t → IsSome (extent_in table t)
scalar_complete table BoolType h = refl
scalar_complete table (IntegerType size rank signed) h = refl
scalar_complete table (PointerTo to) h = refl
scalar_complete table VoidType (inl h) = absurd h
scalar_complete table VoidType (inr h) = absurd h
scalar_complete table FloatingType (inl h) = absurd h
scalar_complete table FloatingType (inr h) = absurd h
scalar_complete table VaListType (inl h) = absurd h
scalar_complete table VaListType (inr h) = absurd h
scalar_complete table (ArrayOf of k) (inl h) = absurd h
scalar_complete table (ArrayOf of k) (inr h) = absurd h
scalar_complete table (FunctionFrom r ps f) (inl h) = absurd h
scalar_complete table (FunctionFrom r ps f) (inr h) = absurd h
scalar_complete table (StructureOf tag) (inl h) = absurd h
scalar_complete table (StructureOf tag) (inr h) = absurd h
scalar_complete table (UnionOf tag) (inl h) = absurd h
scalar_complete table (UnionOf tag) (inr h) = absurd h

get_some : {X : Type 0} (xs : List X) (k : ℕ) → k < length xs → (x : X) × (slice_get xs k ≡ Some x)
get_some [] k lt = absurd (omega arith)
get_some (x ∷ xs) zero lt = (x, refl)
get_some (x ∷ xs) (suc k) lt = get_some xs k (omega arith)

-- an instance without a type that was there had none before
untyped_before : (table : Table) (g : Sets) (a b : Instance) → table ≡ g.table → GoesOn g a b → b.ty ≡ None → a.ty ≡ None
untyped_before table g a b same goes none = by a.ty refl
  where
    by : (o : Option TypeId) → a.ty ≡ o → a.ty ≡ None
    by None is = is
    by (Some id) is =
        let typed = goes.whole _ (ap (λ (o : Option TypeId). typed_whole g.table a o) is) in
        absurd (some_none (sym typed ∙ ap (λ (o : Option TypeId). typed_whole g.table b o) none))

module _ (world : World) (old new : List Instance) (extends : Extends (sets_of world) old new) where
  -- what was there and is bare was bare before
  pub bare_before : NoneBare world old → (i : ℕ) (inst : Instance) → slice_get new i ≡ Some inst → i < length old → IsBare world inst → ⊥
  bare_before none i inst at lt bare =
      let a = get_some old i lt in
      let b = extends i a.0 a.1 in
      let same : b.0 ≡ inst = some_one (sym b.1 ∙ at) in
      let goes : GoesOn (sets_of world) a.0 inst = subst (GoesOn (sets_of world) a.0) same b.2 in
      none i a.0 a.1 (record {
        untyped = untyped_before world.program.types (sets_of world) a.0 inst refl goes bare.untyped;
        first = bare.first;
        location = bare.location;
        first_is = ap (first_from 0 world.space) (sym goes.key) ∙ bare.first_is;
        location_is = bare.location_is;
        id = bare.id;
        content_is = bare.content_is;
      })

  pub none_after : NoneBare world old → length new ≡ length old → NoneBare world new
  none_after none long i inst at bare = (let within = slice_get_within new i inst at in bare_before none i inst at (omega (arith, long, within)) bare)

pub star_blob : (k : ℕ) (id : TypeId) → allocated_content k None ≡ Elements id → ⊥
star_blob k id e = by (nat_eq k 21) e
  where
    by : (b : Bool) → (let c : Content = cond b (Scalars 0) Blob in c) ≡ Elements id → ⊥
    by true g = cc
    by false g = cc

-- an element of a list
pub contains_at : {X : Type 0} (xs : List X) (i : ℕ) (x : X) → slice_get xs i ≡ Some x → Contains xs x
contains_at [] i x e = absurd (none_some e)
contains_at (y ∷ ys) zero x e = (0, omega arith, some_one e)
contains_at (y ∷ ys) (suc i) x e = (let (j, lt, at) = contains_at ys i x e in (suc j, omega arith, at))

-- the one row that keeps a function is atexit's
abbrev keeps : Row → Bool
keeps (Answers Keep) = true
keeps row = false

abbrev keep_fits : ℕ → List Row → Bool
keep_fits m [] = true
keep_fits m (row ∷ others) = (not (keeps row) || nat_eq m 24) && keep_fits (suc m) others

keep_all : keep_fits 0 rows ≡ true
unfolding rows
keep_all = refl

first_true : (a b : Bool) → (a && b) ≡ true → a ≡ true
first_true true b e = refl
first_true false b e = absurd (false≢true e)

second_true : (a b : Bool) → (a && b) ≡ true → b ≡ true
second_true true b e = e
second_true false b e = absurd (false≢true e)

keep_at : (m : ℕ) (list : List Row) (i : ℕ) → keep_fits m list ≡ true → slice_get list i ≡ Some (Answers Keep) → nat_eq (m + i) 24 ≡ true
keep_at m [] i h at = absurd (none_some at)
keep_at m (row ∷ others) zero h at =
    (let z : m + 0 ≡ m = omega arith in ap (λ (j : ℕ). nat_eq j 24) z)
    ∙ (sym (ap (λ (r : Row). not (keeps r) || nat_eq m 24) (some_one at)) ∙ first_true (not (keeps row) || nat_eq m 24) (keep_fits (suc m) others) h)
keep_at m (row ∷ others) (suc i) h at =
    (let z : m + suc i ≡ suc m + i = omega arith in ap (λ (j : ℕ). nat_eq j 24) z) ∙ keep_at (suc m) others i (second_true (not (keeps row) || nat_eq m 24) (keep_fits (suc m) others) h) at

pub keep_number : (k : ℕ) → slice_get rows k ≡ Some (Answers Keep) → k ≡ 24
keep_number k at =
    let is : nat_eq k 24 ≡ true = (let z : k ≡ 0 + k = omega arith in ap (λ (j : ℕ). nat_eq j 24) z) ∙ keep_at 0 rows k keep_all at in
    elim (eqb_tells k 24) [ inl same ↦ same.1 | inr other ↦ absurd (false≢true (sym other.0 ∙ is)) ]

pub keeps_done : {cell : Cell} → Keeps cell ≡ Done → ⊥
keeps_done h = cc

pub calls_done : {callee : Cell} → {given : List Value} → Calls callee given ≡ Done → ⊥
calls_done h = cc

pub again_done : Again ≡ Done → ⊥
again_done h = cc

pub ends_done : {status : ℤ} → {at_once : Bool} → Ends status at_once ≡ Done → ⊥
ends_done h = cc

pub kept_still : (P : (ObjectKey × ℕ) → Type 0) (kept : List (ObjectKey × ℕ)) (at_once : Bool) → Each P kept → Each P (kept_after at_once kept)
kept_still P kept true h = tt
kept_still P kept false h = h

-- stores stay covered
module _ (g : Sets) (old new : List Instance) (extends : Extends g old new) where
  place_stays : (place c : Cell) → CellIn g old (place_row g old place) c → CellIn g new (place_row g new place) c
  place_stays (Pointer i path past) c h = by (slice_get old i) refl h
    where
      by : (o : Option Instance) → slice_get old i ≡ o → CellIn g old (instance_row g path o) c → CellIn g new (instance_row g path (slice_get new i)) c
      by None is h = cell_from_none g new (instance_row g path (slice_get new i)) c (cell_stays g old new extends None c h)
      by (Some a) is h =
          let b = extends i a is in
          let row : instance_row g path (slice_get new i) ≡ spot g.table g.space a.key path = ap (instance_row g path) b.1 ∙ ap (λ (k : ObjectKey). spot g.table g.space k path) b.2.key in
          subst (λ (o : Option ℕ). CellIn g new o c) (sym row) (cell_stays g old new extends (spot g.table g.space a.key path) c h)
  place_stays Null c h = cell_from_none g new None c (cell_stays g old new extends None c h)
  place_stays Unset c h = cell_from_none g new None c (cell_stays g old new extends None c h)
  place_stays (Number m) c h = cell_from_none g new None c (cell_stays g old new extends None c h)
  place_stays (FunctionCell key) c h = cell_from_none g new None c (cell_stays g old new extends None c h)

  pub stores_stay : (stores : List (Cell × Cell)) → StoresIn g old stores → StoresIn g new stores
  stores_stay [] h = tt
  stores_stay (s ∷ others) h = (place_stays s.0 s.1 h.0, stores_stay others h.1)

-- every frame is left
one_long : (memory : List Instance) (i : ℕ) (o : Option Instance) (change : Instance → Instance) → length (changed memory i o change) ≡ length memory
one_long memory i None change = refl
one_long memory i (Some inst) change = length-set memory i (change inst)

ended_long : (list : List ℕ) (memory : List Instance) → length (ended_all memory list) ≡ length memory
ended_long [] memory = refl
ended_long (i ∷ others) memory = ended_long others (ended_one memory i) ∙ one_long memory i (slice_get memory i) _

pub all_long : (frames : List Frame) (memory : List Instance) → length (all_ended memory frames) ≡ length memory
all_long [] memory = refl
all_long (f ∷ others) memory = all_long others (ended_all memory f.instances) ∙ ended_long f.instances memory

pub all_left : (world : World) (frames : List Frame) (memory : List Instance) → Stands world → MemoryIn (sets_of world) memory → Leaves (sets_of world) memory (all_ended memory frames)
all_left world [] memory stands all = record { extends = same_memory (sets_of world) memory; covered = all }
all_left world (f ∷ others) memory stands all =
    let one = instances_ended world memory f.instances stands.grounds all in
    let more = all_left world others (ended_all memory f.instances) stands one.covered in
    record { extends = then_extends (sets_of world) memory (ended_all memory f.instances) (all_ended (ended_all memory f.instances) others) one.extends more.extends; covered = more.covered }

-- what is called back is a comparison
pub is_compared : (u : CoreTrees) (c : Cell) (key : ObjectKey) → comparison_of u c ≡ Ok key → (c ≡ FunctionCell key) × (signature_of u key ≡ comparison)
is_compared u Null key e = absurd (err_ok e)
is_compared u Unset key e = absurd (err_ok e)
is_compared u (Number m) key e = absurd (err_ok e)
is_compared u (Pointer i path past) key e = absurd (err_ok e)
is_compared u (FunctionCell own) key e = by (same_type (signature_of u own) comparison) refl e
  where
    by : (b : Bool) → same_type (signature_of u own) comparison ≡ b → (let r : Result ObjectKey Reason = cond b (Ok own) (Err BadCall) in r) ≡ Ok key → (FunctionCell own ≡ FunctionCell key) × (signature_of u key ≡ comparison)
    by true is g =
        let same : own ≡ key = ok_one g in
        (ap (λ (k : ObjectKey). FunctionCell k) same, subst (λ (k : ObjectKey). signature_of u k ≡ comparison) same (type_true (signature_of u own) comparison is))
    by false is g = absurd (err_ok g)

pub compared_signature : (table : Table) (t : Ctype) (signature : ℕ) → t ≡ comparison → IsSignature table t signature → signature ≡ 0
compared_signature table t signature is (compares x i) = i
compared_signature table t signature is (ends x i) = absurd (let same : comparison ≡ at_end = sym is ∙ x in let no : ⊥ = cc in no)
compared_signature table t signature is (known o f i) = absurd (o.no_comparison is)
compared_signature table t signature is (unknown o f i) = absurd (o.no_comparison is)

-- the parameters of a comparison
typed_by : (u : CoreTrees) (key : ObjectKey) (t : Ctype) → is_typed u.types (key_id u key) t ≡ true → key_type u key ≡ t
typed_by u key t e = by (key_id u key) e
  where
    by : (o : Option TypeId) → is_typed u.types o t ≡ true → type_or_void u.types o ≡ t
    by None g = absurd (false≢true g)
    by (Some id) g = type_true (type_of u.types id.0) t g

pub two_keys : (u : CoreTrees) (keys : List ObjectKey) (s t : Ctype) → have_types u keys (MoreTypes s (MoreTypes t NoTypes)) ≡ true → (a : ObjectKey) × (b : ObjectKey) × (keys ≡ a ∷ b ∷ []) × (key_type u a ≡ s) × (key_type u b ≡ t)
two_keys u [] s t e = absurd (false≢true e)
two_keys u (a ∷ []) s t e = absurd (false≢true (second_true (is_typed u.types (key_id u a) s) false e))
two_keys u (a ∷ b ∷ []) s t e =
    let rest = second_true (is_typed u.types (key_id u a) s) (is_typed u.types (key_id u b) t && true) e in
    (a, b, refl, typed_by u a s (first_true (is_typed u.types (key_id u a) s) (is_typed u.types (key_id u b) t && true) e), typed_by u b t (first_true (is_typed u.types (key_id u b) t) true rest))
two_keys u (a ∷ b ∷ c ∷ keys) s t e =
    let rest = second_true (is_typed u.types (key_id u a) s) (is_typed u.types (key_id u b) t && false) e in
    absurd (false≢true (second_true (is_typed u.types (key_id u b) t) false rest))

-- the type by which a function is called is variadic where its own is
further_called : (t : Ctype) → takes_further (called_type t) ≡ takes_further t
further_called (FunctionFrom result parameters Unspecified) = refl
further_called (FunctionFrom result parameters Fixed) = refl
further_called (FunctionFrom result parameters Variadic) = refl
further_called t = refl

-- what is entered
pub record IsEnteredAs (w : Running) (count : ℕ) (entry : Entry) (arguments : List Value) (made : Activation) : Type 0 where
  pub entity : Entity
  pub there : slice_get w.trees.entities entry.function ≡ Some entity
  pub body : ℕ
  pub body_is : entity.body ≡ Some body
  pub types : have_types w.trees (parameters_of w.trees (view_of w.space) entry.function) (called_list w.trees entity) ≡ true
  pub made_is : activation entry count body (entered_objects w.trees (type_of w.trees.types entity.ty.0) entry.function (parameters_of w.trees (view_of w.space) entry.function) arguments) ≡ made

pub entered_as : (w : Running) (count : ℕ) (entry : Entry) (arguments : List Value) (made : Activation) → entered w count entry arguments ≡ Ok made → IsEnteredAs w count entry arguments made
unfolding entered
entered_as w count entry arguments made e = by_entity (slice_get w.trees.entities entry.function) refl e
  where
    by_types : (entity : Entity) → slice_get w.trees.entities entry.function ≡ Some entity → (body : ℕ) → entity.body ≡ Some body → (b : Bool) → have_types w.trees (parameters_of w.trees (view_of w.space) entry.function) (called_list w.trees entity) ≡ b
        → (let r : Result Activation Reason = cond b (Ok (activation entry count body (entered_objects w.trees (type_of w.trees.types entity.ty.0) entry.function (parameters_of w.trees (view_of w.space) entry.function) arguments))) (Err Mismatch) in r) ≡ Ok made → IsEnteredAs w count entry arguments made
    by_types entity there body body_is true is g = record { entity = entity; there = there; body = body; body_is = body_is; types = is; made_is = ok_one g }
    by_types entity there body body_is false is g = absurd (err_ok g)

    by_body : (entity : Entity) → slice_get w.trees.entities entry.function ≡ Some entity → (o : Option ℕ) → entity.body ≡ o → activation_by w count entry arguments (type_of w.trees.types entity.ty.0) o ≡ Ok made → IsEnteredAs w count entry arguments made
    by_body entity there (Some body) is g = by_types entity there body is (have_types w.trees (parameters_of w.trees (view_of w.space) entry.function) (called_list w.trees entity)) refl g
    by_body entity there None is g = absurd (err_ok g)

    by_entity : (o : Option Entity) → slice_get w.trees.entities entry.function ≡ o → activation_of w count entry arguments o ≡ Ok made → IsEnteredAs w count entry arguments made
    by_entity (Some entity) is g = by_body entity is entity.body refl g
    by_entity None is g = absurd (err_ok g)

-- a function that isn't variadic has objects of its parameters alone
pub entered_plain : (w : Running) (count : ℕ) (entry : Entry) (arguments : List Value) (made : Activation) (x : IsEnteredAs w count entry arguments made) → takes_further (called_type (type_of w.trees.types x.entity.ty.0)) ≡ false
    → activation entry count x.body (parameter_objects w.trees (parameters_of w.trees (view_of w.space) entry.function) arguments) ≡ made
entered_plain w count entry arguments made x plain =
    let keys : List ObjectKey = parameters_of w.trees (view_of w.space) entry.function in
    let own : List Instance = parameter_objects w.trees keys arguments in
    let none : further_objects (type_of w.trees.types x.entity.ty.0) entry.function (drop (length keys) arguments) ≡ [] =
    ap (λ (b : Bool). if b then arguments_object (VarargsKey entry.function) (drop (length keys) arguments) ∷ [] else []) (sym (further_called (type_of w.trees.types x.entity.ty.0)) ∙ plain) in
    ap (activation entry count x.body) (sym (append-nil own) ∙ ap (λ (objects : List Instance). own ++ objects) (sym none)) ∙ x.made_is

-- what an effect leaves: a memory beside the one before, and where it calls a function of the library back, that is one
-- of those that it calls back
pub record EffectGoes (world : World) (memory : List Instance) (n : ℕ) (e : Effected) : Type 0 where
  pub leaves : Leaves (sets_of world) memory e.memory
  pub back : (callee : Cell) (given : List Value) (other : ℕ) → e.outcome.next ≡ Calls callee given → comparison_of (trees_of world) callee ≡ Ok (FunctionKey other) → IsPendingBack world memory n other given
