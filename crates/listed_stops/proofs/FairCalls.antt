-- Functions are entered, lists go on and a program starts without a bad call; so does a library function that neither ends an object, calls back nor
-- keeps a function.
use Rattle.std.proofs.Common.{◌≡◌, ◌∙◌, ℕ, ◌+◌, ◌/◌, ◌%◌, nat_le, pos, Bool, true, false, List, [], ◌∷◌, Option, Some, None, Result, Ok, Err, length, slice_get, refl, sym, subst}
use Rattle.c_types.specs.declared.key.ObjectKey.{ObjectKey}
use Rattle.c_types.specs.declared.term.PathStep.TheVariants.{Index}
use Rattle.c_types.specs.declared.term.TypeId.{TypeId}
use Rattle.c_types.specs.Trees.{Ctype}
use Rattle.c_types.specs.Table.{type_of}
use Rattle.core_tree.specs.declared.node.Entity.{Entity}
use Rattle.core_tree.specs.declared.node.Node.{Node}
use Rattle.core_tree.specs.Typed.{type_at}
use Rattle.obj_space.specs.View.{view_of}
use Rattle.row_numbers.specs.Functions.{parameters_of}
use Rattle.row_numbers.specs.Objects.{library_id}
use Rattle.call_sites.specs.Signatures.{called_type}
use Rattle.ref_cells.specs.declared.cells.Reason.{Reason}
use Rattle.ref_cells.specs.declared.cells.Reason.TheVariants.{OutOfRange, Mismatch}
use Rattle.ref_cells.specs.declared.cells.Cell.{Cell}
use Rattle.ref_cells.specs.declared.cells.Cell.TheVariants.{Number, Null, Pointer, Function}
use Rattle.ref_cells.specs.declared.cells.Value.{Value}
use Rattle.ref_cells.specs.declared.instance.Instance.{Instance}
use Rattle.ref_cells.specs.Cells.{CellList, under}
use Rattle.ref_mem.specs.Reads.{read, one_cell}
use Rattle.ref_mem.specs.Writes.{write}
use Rattle.ref_elements.specs.declared.outcome.Next.{Next}
use Rattle.ref_elements.specs.declared.outcome.Next.TheVariants.{Done, Again, Calls, Keeps, Ends}
use Rattle.ref_elements.specs.Objects.{object_from}
use Rattle.ref_elements.specs.Outcomes.{Effected, Effect, start_of, stores_and_gives}
use Rattle.ref_elements.specs.Runs.{◌>>=◌, live_at}
use Rattle.ref_lib.specs.declared.rows.Elements.TheVariants.{Sort, Find}
use Rattle.ref_lib.specs.declared.rows.Row.{Row}
use Rattle.ref_lib.specs.declared.rows.Row.TheVariants.{Moves}
use Rattle.ref_lib.specs.Effects.{rows, effect}
use Rattle.ref_state.specs.declared.frames.Frame.{Frame}
use Rattle.ref_state.specs.declared.state.State.{State}
use Rattle.ref_state.specs.Items.{settled}
use Rattle.ref_state.specs.Values.{cell_in, cell_of, first_cell}
use Rattle.ref_values.specs.Memory.{stores_at}
use Rattle.ref_frames.specs.declared.entering.Activation.{Activation}
use Rattle.ref_frames.specs.declared.entering.Entry.{Entry}
use Rattle.ref_frames.specs.Frames.{list_of, have_types, entered_objects, activation, activation_over, activation_by, activation_of, entered}
use Rattle.ref_frames.specs.OnTop.{only, on_top}
use Rattle.ref_frames.specs.Running.{Running, element_type}
use Rattle.ref_calls.specs.declared.lists.Taken.{Taken}
use Rattle.ref_calls.specs.Library.{object_of, result_in, term_in, performed_as, performed, goes_by, library_row}
use Rattle.ref_calls.specs.Lists.{argument_node, is_argument, points, held_value, argument_value, argument_at, list_from, taken_by, taken, put_back, taken_over, taken_at, settled_by, next_row}
use Rattle.ref_start.specs.Begin.{main_of, main_entry, with_texts, made_by, main_made, begun, begins_at, begins_with, begins, begin}
use Rattle.ref_start.specs.Entries.{Given, given_to, with_given, entered_given, enters_or_ends, starts_by, starts}
use Rattle.covered_runs.specs.covered_steps.covered_effects.Traces.{MayCall, MayGo}
use Rattle.covered_runs.proofs.covered_steps.covered_effects.Traces.{effects_traced}
use Rattle.listed_stops.proofs.Fair.{Fair, after_fair, then_fair, either_fair, read_fair, write_fair, scalar_fair, live_fair}
use Rattle.listed_stops.proofs.FairTexts.{is_ender, effect_fair}

some_one : {X : Type 0} → {x y : X} → ◌≡◌ {A = Option X} (Some x) (Some y) → x ≡ y
some_one h = cc

true_false : true ≡ false → ⊥
true_false e = cc

-- ---- functions are entered
over_fair : (w : Running) (count : ℕ) (entry : Entry) (arguments : List Value) (t : Ctype) (parameters : List ObjectKey) (body : ℕ) → Fair (activation_over w count entry arguments t parameters body)
over_fair w count entry arguments t parameters body =
    either_fair (have_types w.trees parameters (list_of (called_type t))) (Ok (activation entry count body (entered_objects w.trees t entry.function parameters arguments))) (Err Mismatch) tt tt

by_fair : (w : Running) (count : ℕ) (entry : Entry) (arguments : List Value) (t : Ctype) (o : Option ℕ) → Fair (activation_by w count entry arguments t o)
by_fair w count entry arguments t None = tt
by_fair w count entry arguments t (Some body) = over_fair w count entry arguments t (parameters_of w.trees (view_of w.space) entry.function) body

of_fair : (w : Running) (count : ℕ) (entry : Entry) (arguments : List Value) (o : Option Entity) → Fair (activation_of w count entry arguments o)
of_fair w count entry arguments None = tt
of_fair w count entry arguments (Some entity) = by_fair w count entry arguments (type_of w.trees.types entity.ty.0) entity.body

pub entered_fair : (w : Running) (count : ℕ) (entry : Entry) (arguments : List Value) → Fair (entered w count entry arguments)
unfolding entered
entered_fair w count entry arguments = of_fair w count entry arguments (slice_get w.trees.entities entry.function)

-- and come on top
pub enters_fair : (w : Running) (count : ℕ) (entry : Entry) (arguments : List Value) (k : Activation → Result State Reason) → ((made : Activation) → Fair (k made)) → Fair (entered w count entry arguments >>= k)
enters_fair w count entry arguments k h = then_fair (entered w count entry arguments) k (entered_fair w count entry arguments) h

-- ---- lists
held_fair : (t : Ctype) (cell : Cell) → Fair (held_value t cell)
held_fair t (Pointer i path past) = either_fair (points t) (Ok (one_cell (Pointer i path past))) (Err Mismatch) tt tt
held_fair t (Function key) = either_fair (points t) (Ok (one_cell (Function key))) (Err Mismatch) tt tt
held_fair t cell = scalar_fair t cell

argument_value_fair : (t : Ctype) (cells : CellList) (b : Bool) → Fair (argument_value t cells b)
argument_value_fair t cells false = tt
argument_value_fair t cells true = held_fair t (first_cell cells)

argument_fair : (w : Running) (frames : List Frame) (i k : ℕ) (t : Ctype) (inst : Instance) → Fair (argument_at w frames i k t inst)
argument_fair w frames i k t inst =
    either_fair (nat_le inst.bytes k) (Err OutOfRange) (argument_value t (under (Index k) inst.cells) (is_argument w.trees t (argument_node w frames i k inst.key))) tt
    (argument_value_fair t (under (Index k) inst.cells) (is_argument w.trees t (argument_node w frames i k inst.key)))

taken_by_fair : (w : Running) (memory : List Instance) (frames : List Frame) (place : Cell) (t : Ctype) (cell : Cell) → Fair (taken_by w memory frames place t cell)
taken_by_fair w memory frames place t (Pointer i (Index k ∷ []) false) =
    then_fair (live_at (slice_get memory i))
    (λ (inst : Instance). argument_at w frames i k t inst >>= λ (value : Value). let r : Result Taken Reason = Ok (record { place = place; list = list_from i (k + 1); value = value }) in r)
    (live_fair (slice_get memory i))
    (λ inst.
    then_fair (argument_at w frames i k t inst) (λ (value : Value). let r : Result Taken Reason = Ok (record { place = place; list = list_from i (k + 1); value = value }) in r) (argument_fair w frames i k t inst) (λ value. tt))
taken_by_fair w memory frames place t Null = tt
taken_by_fair w memory frames place t cell = tt

taken_fair : (w : Running) (memory : List Instance) (frames : List Frame) (place : Cell) (s t : Ctype) → Fair (taken w memory frames place s t)
taken_fair w memory frames place s t =
    then_fair (read w.trees.types memory place s) (λ (list : Value). taken_by w memory frames place t (cell_of list)) (read_fair w.trees.types memory place s) (λ list. taken_by_fair w memory frames place t (cell_of list))

put_back_fair : (w : Running) (memory : List Instance) (s : Ctype) (next : Taken) → Fair (put_back w.trees.types memory s next)
put_back_fair w memory s next =
    then_fair (write w.trees.types memory next.place s next.list) (λ after. stores_and_gives after next.value (stores_at next.place next.list.cells)) (write_fair w.trees.types memory next.place s next.list) (λ after. tt)

taken_over_fair : (w : Running) (memory : List Instance) (frames : List Frame) (t : Ctype) (children : List ℕ) (values : List (ℕ × Value)) → Fair (taken_over w memory frames t children values)
taken_over_fair w memory frames t (p ∷ []) values =
    then_fair (taken w memory frames (cell_in values p) (type_at w.trees p) t) (λ (next : Taken). put_back w.trees.types memory (type_at w.trees p) next) (taken_fair w memory frames (cell_in values p) (type_at w.trees p) t)
    (λ next. put_back_fair w memory (type_at w.trees p) next)
taken_over_fair w memory frames t children values = tt

taken_at_fair : (w : Running) (memory : List Instance) (frames : List Frame) (o : Option Node) (values : List (ℕ × Value)) → Fair (taken_at w memory frames o values)
taken_at_fair w memory frames None values = tt
taken_at_fair w memory frames (Some node) values = taken_over_fair w memory frames (type_of w.trees.types node.ty.0) node.children values

settled_fair : (state : State) (f : Frame) (rest : List Frame) (n : ℕ) (effect : Effect) → Fair effect → Fair (settled_by state f rest n effect)
settled_fair state f rest n effect h =
    then_fair effect (λ (e : Effected). let r : Result State Reason = Ok (record state { memory = e.memory; frames = record f { items = settled n e.outcome.value f.items } ∷ rest; notes = only e.outcome.stores }) in r) h (λ e. tt)

pub next_fair : (w : Running) (state : State) (f : Frame) (rest : List Frame) (n : ℕ) (values : List (ℕ × Value)) → Fair (next_row w state f rest n values)
unfolding next_row
next_fair w state f rest n values =
    settled_fair state f rest n (taken_at w state.memory (f ∷ rest) (slice_get w.trees.nodes n) values) (taken_at_fair w state.memory (f ∷ rest) (slice_get w.trees.nodes n) values)

-- ---- a program starts
made_fair : (w : Running) (before argv main count word : ℕ) → Fair (made_by w before argv main count word)
made_fair w before argv main count word =
    then_fair (entered w (before + count) (main_entry main) (one_cell (Number (pos count)) ∷ one_cell (start_of argv) ∷ []))
    (λ (made : Activation). let r : Result (CellList × Activation) Reason = Ok (with_texts w before count word made) in r)
    (entered_fair w (before + count) (main_entry main) (one_cell (Number (pos count)) ∷ one_cell (start_of argv) ∷ [])) (λ made. tt)

begins_at_fair : (w : Running) (state : State) (main word : ℕ) (o : Option ℕ) → Fair (begins_at w state main word o)
begins_at_fair w state main word None = tt
begins_at_fair w state main word (Some argv) =
    then_fair (main_made w (length state.memory) argv main word) (λ (made : CellList × Activation). let r : Result State Reason = Ok (begun state argv made) in r)
    (made_fair w (length state.memory) argv main (1 + word % 8) word) (λ made. tt)

begins_with_fair : (w : Running) (state : State) (main word : ℕ) (keys : List ObjectKey) → Fair (begins_with w state main word keys)
begins_with_fair w state main word [] = enters_fair w (length state.memory) (main_entry main) [] (λ made. Ok (on_top state state.frames (only []) made)) (λ made. tt)
begins_with_fair w state main word (key ∷ rest) = begins_at_fair w state main word (object_from 9 0 state.memory)

begins_fair : (w : Running) (state : State) (word : ℕ) (o : Option ℕ) → Fair (begins w state word o)
begins_fair w state word None = tt
begins_fair w state word (Some main) = begins_with_fair w state main word (parameters_of w.trees (view_of w.space) main)

begin_fair : (w : Running) (state : State) (word : ℕ) → Fair (begin w state word)
unfolding begin
begin_fair w state word = begins_fair w state word (main_of w.trees)

entered_given_fair : (w : Running) (state : State) (e : ℕ) (given : Given) → Fair (entered_given w state e given)
entered_given_fair w state e given =
    enters_fair w (length state.memory + length given.fresh) (main_entry e) given.arguments (λ made. Ok (on_top (with_given state given) state.frames (only made.stores) made)) (λ made. tt)

enters_or_ends_fair : (w : Running) (state : State) (h : ℕ) (o : Option ℕ) → Fair (enters_or_ends w state h o)
enters_or_ends_fair w state h None = tt
enters_or_ends_fair w state h (Some e) = entered_given_fair w state e (given_to w state e h)

starts_by_fair : (w : Running) (state : State) (word : ℕ) (entries : List ℕ) → Fair (starts_by w state word entries)
starts_by_fair w state word [] = begin_fair w state word
starts_by_fair w state word (e ∷ entries) = enters_or_ends_fair w state (word / (length (e ∷ entries) + 1)) (slice_get (e ∷ entries) (word % (length (e ∷ entries) + 1)))

pub starts_fair : (w : Running) (state : State) (word : ℕ) → Fair (starts w state word)
unfolding starts
starts_fair w state word = starts_by_fair w state word w.entries

-- ---- the library
-- a row that calls back is one of those
calls_ender : (row : Row) → MayCall row → is_ender row ≡ true
calls_ender (Moves Sort) h = refl
calls_ender (Moves Find) h = refl
calls_ender row h = absurd h

module _ (w : Running) (state : State) (f : Frame) (rest : List Frame) (n k : ℕ) (arguments : List Value) (word : ℕ) (none : (row : Row) → slice_get rows k ≡ Some row → is_ender row ≡ false) where
  performed_as_fair : (o : Option TypeId) → Fair (performed_as w state.memory n k arguments word o)
  performed_as_fair None = tt
  performed_as_fair (Some result) = effect_fair w.trees.types state.memory k (object_of w.trees n k) (element_type w (object_of w.trees n k)) result arguments word none

  performed_fair : Fair (performed w state.memory n k arguments word)
  unfolding performed
  performed_fair = performed_as_fair (result_in (term_in w.trees (library_id k w.trees.entities)))

  -- it calls nothing back
  ok_row : (o : Option TypeId) (e : Effected) → performed_as w state.memory n k arguments word o ≡ Ok e → (row : Row) × (slice_get rows k ≡ Some row) × MayGo row arguments e.outcome.next
  ok_row None e is = absurd (let bad : ◌≡◌ {A = Effect} (Err Mismatch) (Ok e) = is in cc)
  ok_row (Some result) e is =
      let t = effects_traced w.trees.types state.memory k (object_of w.trees n k) (element_type w (object_of w.trees n k)) result arguments word e is in
      (t.row, t.row_is, t.goes)

  traced : (e : Effected) → performed w state.memory n k arguments word ≡ Ok e → (row : Row) × (slice_get rows k ≡ Some row) × MayGo row arguments e.outcome.next
  unfolding performed
  traced e is = ok_row (result_in (term_in w.trees (library_id k w.trees.entities))) e is

  goes_fair : (e : Effected) → performed w state.memory n k arguments word ≡ Ok e → (o : Next) → e.outcome.next ≡ o
      → Fair (goes_by w (record state { memory = e.memory }) f rest n k e.outcome.value e.outcome.stores o)
  goes_fair e is Done at = tt
  goes_fair e is Again at = tt
  goes_fair e is (Keeps cell) at = tt
  goes_fair e is (Ends status at_once) at = tt
  goes_fair e is (Calls callee given) at =
      let t = traced e is in
      absurd (true_false (sym (calls_ender t.0 (subst (MayGo t.0 arguments) at t.2)) ∙ none t.0 t.1))

  pub library_fair : Fair (library_row w state f rest n k arguments word)
  unfolding library_row
  library_fair =
      after_fair (performed w state.memory n k arguments word) (λ (e : Effected). goes_by w (record state { memory = e.memory }) f rest n k e.outcome.value e.outcome.stores e.outcome.next) performed_fair
      (λ e is. goes_fair e is e.outcome.next refl)
