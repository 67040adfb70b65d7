-- A call that reaches a library function which goes through objects by their types stands as a mismatch; the other functions stop with
-- Mismatch only where they lack an object of the library.
use Rattle.std.proofs.Common.{arith, ◌≡◌, ◌∙◌, ◌⊎◌, inl, inr, ℕ, zero, suc, ◌+◌, ◌*◌, ◌%◌, ◌^◌, ◌<◌, ◌&&◌, ◌||◌, not, Bool, true, false, cond, List, [], ◌∷◌, length, Option, Some, None, Ok, Err, slice_get, refl, sym, ap, subst}
use Rattle.std.proofs.lemmas.Bool.{false≢true}
use Rattle.c_types.specs.declared.key.ObjectKey.{ObjectKey}
use Rattle.c_types.specs.declared.key.ObjectKey.TheVariants.{Function as FunctionKey}
use Rattle.c_types.specs.declared.term.TypeId.{TypeId}
use Rattle.c_types.specs.Trees.{Ctype}
use Rattle.c_types.specs.Table.{Table, type_of}
use Rattle.core_tree.specs.declared.node.Node.{Node}
use Rattle.core_tree.specs.declared.node.NodeKind.TheVariants.{CallNode}
use Rattle.sol_model.specs.declared.system.CallSite.{CallSite}
use Rattle.sol_model.specs.declared.system.Function.{Function}
use Rattle.lib_summaries.specs.Table.{rows as summaries, name_of}
use Rattle.row_numbers.specs.Objects.{library_id}
use Rattle.call_sites.specs.Calls.{calls_upto}
use Rattle.stop_places.specs.Found.{is_named}
use Rattle.stop_places.specs.Targets.{ReachesWalker, walkers}
use Rattle.stop_places.proofs.Finding.{is_named_from}
use Rattle.ref_cells.specs.declared.cells.Reason.TheVariants.{Mismatch}
use Rattle.ref_cells.specs.declared.cells.Cell.{Cell}
use Rattle.ref_cells.specs.declared.cells.Cell.TheVariants.{Null, Function as FunctionCell}
use Rattle.ref_cells.specs.declared.cells.Value.{Value}
use Rattle.ref_cells.specs.declared.instance.Instance.{Instance}
use Rattle.ref_elements.specs.declared.outcome.Next.{Next}
use Rattle.ref_elements.specs.declared.outcome.Next.TheVariants.{Done, Again, Calls, Keeps, Ends}
use Rattle.ref_elements.specs.Arguments.{argument, count_of}
use Rattle.ref_elements.specs.Objects.{is_odd, object_from, element_of_object, place_of_object}
use Rattle.ref_elements.specs.Outcomes.{Effected, Effect, gives, null_value}
use Rattle.ref_lib.specs.declared.rows.Making.TheVariants.{Malloc, Calloc, Realloc, Free as FreeRow, Perhaps, Object, Place, Classes}
use Rattle.ref_lib.specs.declared.rows.Elements.TheVariants.{Sort, Find}
use Rattle.ref_lib.specs.declared.rows.Plain.TheVariants.{AnyNumber, Byte, InClass, ToUpper, ToLower, Keep, Exit, Abort}
use Rattle.ref_lib.specs.declared.rows.Row.{Row}
use Rattle.ref_lib.specs.declared.rows.Row.TheVariants.{Makes, Moves, Writes, Answers}
use Rattle.ref_lib.specs.ref_alloc.Allocation.{allocated, heap_at, freed, free_row, object_row, ctype_set, ctype_in}
use Rattle.ref_lib.specs.ref_alloc.Plain.{keep_row}
use Rattle.ref_lib.specs.Effects.{rows, row_effect, effect}
use Rattle.ref_state.specs.declared.frames.Frame.{Frame}
use Rattle.ref_state.specs.declared.state.State.{State}
use Rattle.ref_frames.specs.Running.{Running, element_type}
use Rattle.ref_calls.specs.Library.{object_of, result_in, term_in, performed_as, performed, goes_by, library_row}
use Rattle.covering_laws.proofs.covered_library.Named.{object_there}
use Rattle.covering_laws.proofs.covered_rows.Targets.{function_there}
use Rattle.covering_laws.specs.covered_state.World.{World, trees_of, IsTargetAt}
use Rattle.covered_runs.specs.covered_steps.covered_effects.Traces.{MayCall, MayGo}
use Rattle.covered_runs.proofs.covered_steps.covered_effects.Traces.{effects_traced}
use Rattle.listed_stops.specs.Mismatches.{LacksObject}
use Rattle.listed_stops.proofs.Free.{Free, lift_free, after_free, either_free}
use Rattle.listed_stops.proofs.Ends.{place, number_of_call}

some_one : {X : Type 0} → {x y : X} → ◌≡◌ {A = Option X} (Some x) (Some y) → x ≡ y
some_one h = cc

none_some : {X : Type 0} → {x : X} → ◌≡◌ {A = Option X} None (Some x) → ⊥
none_some h = cc

true_false : true ≡ false → ⊥
true_false e = cc

-- a call node that stands as a mismatch
pub record WalksAt (world : World) (n : ℕ) : Type 0 where
  pub node : Node
  pub there : slice_get (trees_of world).nodes n ≡ Some node
  pub kind : node.kind ≡ CallNode
  pub site : CallSite
  pub site_is : slice_get world.system.calls (length (calls_upto (trees_of world).nodes n)) ≡ Some site
  pub walks : ReachesWalker world.system world.family site

pub walker_listed : (world : World) (n k : ℕ) → IsTargetAt world n (FunctionKey k) → is_named walkers k ≡ true → WalksAt world n
walker_listed world n k t named =
    let f = function_there world.program world.space world.system world.is_system t.function (FunctionKey k) t.function_is in
    let library : t.target.1.library ≡ Some k = ap (λ (x : Function). x.library) (some_one (sym t.target.3.known ∙ f.1)) ∙ f.2.library in
    let p = place world n t.call t.call_is in
    record {
      node = p.node;
      there = p.there;
      kind = p.kind;
      site = t.target.0;
      site_is = ap (slice_get world.system.calls) (sym (number_of_call world n t.call t.call_is)) ∙ t.target.2;
      walks = (k, (t.function, t.target.1, t.target.3, library), is_named_from walkers k named);
    }

-- ---- the functions of these rows have those names
abbrev pub is_walker : Row → Bool
is_walker (Makes Realloc) = true
is_walker (Moves row) = true
is_walker (Writes row) = true
is_walker row = false

then_named : (a b : Bool) → a ≡ true → (not a || b) ≡ true → b ≡ true
then_named true b is e = e
then_named false b is e = absurd (false≢true is)

first_true : (a b : Bool) → (a && b) ≡ true → a ≡ true
first_true true b e = refl
first_true false b e = absurd (false≢true e)

second_true : (a b : Bool) → (a && b) ≡ true → b ≡ true
second_true true b e = e
second_true false b e = absurd (false≢true e)

abbrev rows_named : ℕ → List Row → Bool
rows_named m [] = true
rows_named m (row ∷ rest) = (not (is_walker row) || is_named walkers m) && rows_named (suc m) rest

all_named : rows_named 0 rows ≡ true
unfolding rows summaries name_of walkers
all_named = refl

named_at : (list : List Row) (m k : ℕ) (row : Row) → rows_named m list ≡ true → slice_get list k ≡ Some row → is_walker row ≡ true → is_named walkers (m + k) ≡ true
named_at [] m k row all at h = absurd (none_some at)
named_at (x ∷ rest) m zero row all at h =
    (let z : m + 0 ≡ m = omega arith in ap (is_named walkers) z)
    ∙ then_named (is_walker x) (is_named walkers m) (ap is_walker (some_one at) ∙ h) (first_true (not (is_walker x) || is_named walkers m) (rows_named (suc m) rest) all)
named_at (x ∷ rest) m (suc k) row all at h =
    (let z : m + suc k ≡ suc m + k = omega arith in ap (is_named walkers) z)
    ∙ named_at rest (suc m) k row (second_true (not (is_walker x) || is_named walkers m) (rows_named (suc m) rest) all) at h

pub row_named : (k : ℕ) (row : Row) → slice_get rows k ≡ Some row → is_walker row ≡ true → is_named walkers k ≡ true
row_named k row at h = (let z : k ≡ 0 + k = omega arith in ap (is_named walkers) z) ∙ named_at rows 0 k row all_named at h

-- there are 55 rows
row_within : (list : List Row) (k : ℕ) → k < length list → (row : Row) × (slice_get list k ≡ Some row)
row_within [] k lt = absurd (omega (arith, lt))
row_within (x ∷ xs) zero lt = (x, refl)
row_within (x ∷ xs) (suc k) lt = row_within xs k (omega (arith, lt))

row_count : length rows ≡ 55
unfolding rows
row_count = refl

pub row_there : (k : ℕ) → k < 55 → (row : Row) × (slice_get rows k ≡ Some row)
row_there k lt = (let c = row_count in row_within rows k (omega (arith, lt, c)))

-- ---- the other rows
element_free : (memory : List Instance) (o : Option ℕ) → Free (o ≡ None) (element_of_object memory o)
element_free memory None = refl
element_free memory (Some i) = tt

place_free : (memory : List Instance) (o : Option ℕ) → Free (o ≡ None) (place_of_object memory o)
place_free memory None = refl
place_free memory (Some i) = tt

freed_free : (C : Type 0) (memory : List Instance) (o : Option ℕ) → Free C (freed memory o)
freed_free C memory None = tt
freed_free C memory (Some i) = tt

free_free : (C : Type 0) (memory : List Instance) (cell : Cell) → Free C (free_row memory cell)
free_free C memory Null = tt
free_free C memory cell = freed_free C memory (heap_at memory cell)

keep_free : (C : Type 0) (memory : List Instance) (result : Ctype) (cell : Cell) → Free C (keep_row memory result cell)
keep_free C memory result Null = tt
keep_free C memory result (FunctionCell key) = tt
keep_free C memory result cell = tt

set_free : (C : Type 0) (table : Table) (memory : List Instance) (n i at : ℕ) (inst : Instance) (o : Option Instance) → o ≡ Some inst → Free C (ctype_set table memory n i at o)
set_free C table memory n i at inst None is = absurd (none_some is)
set_free C table memory n i at inst (Some other) is = tt

ctype_free : (table : Table) (memory : List Instance) (n : ℕ) (a b : Option ℕ) → object_from 8 0 memory ≡ a → Free ((a ≡ None) ⊎ (b ≡ None)) (ctype_in table memory n a b)
ctype_free table memory n (Some i) (Some at) is =
    let h = object_there 8 memory i is in
    set_free ((◌≡◌ {A = Option ℕ} (Some i) None) ⊎ (◌≡◌ {A = Option ℕ} (Some at) None)) table memory n i at h.0 (slice_get memory i) h.1
ctype_free table memory n None b is = inl refl
ctype_free table memory n (Some i) None is = inr refl

row_free : (table : Table) (memory : List Instance) (row : Row) (key : ObjectKey) (fixed : Option TypeId) (result : Ctype) (args : List Value) (word : ℕ) → is_walker row ≡ false
    → Free (LacksObject memory (Some row)) (row_effect table memory (Some row) key fixed result args word)
row_free table memory (Makes Malloc) key fixed result args word h = either_free ⊥ (is_odd word) (gives memory null_value) (allocated memory key (count_of (argument args 0)) false) tt tt
row_free table memory (Makes Calloc) key fixed result args word h =
    either_free ⊥ (is_odd word) (gives memory null_value) (allocated memory key ((count_of (argument args 0) * count_of (argument args 1)) % 2 ^ 64) true) tt tt
row_free table memory (Makes Realloc) key fixed result args word h = absurd (true_false h)
row_free table memory (Makes FreeRow) key fixed result args word h = free_free ⊥ memory (argument args 0)
row_free table memory (Makes (Perhaps position)) key fixed result args word h =
    either_free (object_from position 0 memory ≡ None) (is_odd word) (gives memory null_value) (object_row position memory) tt (element_free memory (object_from position 0 memory))
row_free table memory (Makes (Object position)) key fixed result args word h = element_free memory (object_from position 0 memory)
row_free table memory (Makes (Place position)) key fixed result args word h = place_free memory (object_from position 0 memory)
row_free table memory (Makes Classes) key fixed result args word h = ctype_free table memory (word % 65536) (object_from 8 0 memory) (object_from 7 0 memory) refl
row_free table memory (Moves row) key fixed result args word h = absurd (true_false h)
row_free table memory (Writes row) key fixed result args word h = absurd (true_false h)
row_free table memory (Answers AnyNumber) key fixed result args word h = tt
row_free table memory (Answers Byte) key fixed result args word h = tt
row_free table memory (Answers (InClass class)) key fixed result args word h = tt
row_free table memory (Answers ToUpper) key fixed result args word h = tt
row_free table memory (Answers ToLower) key fixed result args word h = tt
row_free table memory (Answers Keep) key fixed result args word h = keep_free ⊥ memory result (argument args 0)
row_free table memory (Answers Exit) key fixed result args word h = tt
row_free table memory (Answers Abort) key fixed result args word h = tt

effect_free : (table : Table) (memory : List Instance) (k : ℕ) (key : ObjectKey) (fixed : Option TypeId) (result : TypeId) (args : List Value) (word : ℕ) (row : Row) → slice_get rows k ≡ Some row → is_walker row ≡ false
    → Free (LacksObject memory (slice_get rows k)) (effect table memory k key fixed result args word)
unfolding effect
effect_free table memory k key fixed result args word row at h =
    subst (λ (o : Option Row). Free (LacksObject memory o) (row_effect table memory o key fixed (type_of table result.0) args word)) (sym at) (row_free table memory row key fixed (type_of table result.0) args word h)

-- ---- a pending call
-- a row that calls back is a walker's
calls_walker : (row : Row) → MayCall row → is_walker row ≡ true
calls_walker (Moves Sort) h = refl
calls_walker (Moves Find) h = refl
calls_walker row h = absurd h

module _ (w : Running) (state : State) (f : Frame) (rest : List Frame) (n k : ℕ) (arguments : List Value) (word : ℕ) (row : Row) (at : slice_get rows k ≡ Some row) (other : is_walker row ≡ false) where
  -- the function has no function's type, or lacks an object
  abbrev Lacks : Type 0
  Lacks = (result_in (term_in w.trees (library_id k w.trees.entities)) ≡ None) ⊎ LacksObject state.memory (slice_get rows k)

  performed_as_free : (o : Option TypeId) → result_in (term_in w.trees (library_id k w.trees.entities)) ≡ o → Free Lacks (performed_as w state.memory n k arguments word o)
  performed_as_free None is = inl is
  performed_as_free (Some result) is =
      lift_free (LacksObject state.memory (slice_get rows k)) Lacks (effect w.trees.types state.memory k (object_of w.trees n k) (element_type w (object_of w.trees n k)) result arguments word) (λ h. inr h)
      (effect_free w.trees.types state.memory k (object_of w.trees n k) (element_type w (object_of w.trees n k)) result arguments word row at other)

  performed_free : Free Lacks (performed w state.memory n k arguments word)
  unfolding performed
  performed_free = performed_as_free (result_in (term_in w.trees (library_id k w.trees.entities))) refl

  -- it calls nothing back
  ok_row : (o : Option TypeId) (e : Effected) → performed_as w state.memory n k arguments word o ≡ Ok e → (own : Row) × (slice_get rows k ≡ Some own) × MayGo own arguments e.outcome.next
  ok_row None e is = absurd (let bad : ◌≡◌ {A = Effect} (Err Mismatch) (Ok e) = is in cc)
  ok_row (Some result) e is =
      let t = effects_traced w.trees.types state.memory k (object_of w.trees n k) (element_type w (object_of w.trees n k)) result arguments word e is in
      (t.row, t.row_is, t.goes)

  traced : (e : Effected) → performed w state.memory n k arguments word ≡ Ok e → (own : Row) × (slice_get rows k ≡ Some own) × MayGo own arguments e.outcome.next
  unfolding performed
  traced e is = ok_row (result_in (term_in w.trees (library_id k w.trees.entities))) e is

  goes_free : (e : Effected) → performed w state.memory n k arguments word ≡ Ok e → (o : Next) → e.outcome.next ≡ o
      → Free Lacks (goes_by w (record state { memory = e.memory }) f rest n k e.outcome.value e.outcome.stores o)
  goes_free e is Done next = tt
  goes_free e is Again next = tt
  goes_free e is (Keeps cell) next = tt
  goes_free e is (Ends status at_once) next = tt
  goes_free e is (Calls callee given) next =
      let t = traced e is in
      absurd (true_false (sym (calls_walker t.0 (subst (MayGo t.0 arguments) next t.2)) ∙ (ap is_walker (some_one (sym t.1 ∙ at)) ∙ other)))

  pub library_free : Free Lacks (library_row w state f rest n k arguments word)
  unfolding library_row
  library_free =
      after_free Lacks (performed w state.memory n k arguments word) (λ (e : Effected). goes_by w (record state { memory = e.memory }) f rest n k e.outcome.value e.outcome.stores e.outcome.next) performed_free
      (λ e is. goes_free e is e.outcome.next refl)
