-- A step leaves what was handed over, and may put more behind it.
use Rattle.std.proofs.Common.{arith, ◌≡◌, ℕ, zero, suc, ℤ, ◌+◌, ◌/◌, ◌%◌, ◌++◌, ◌≤◌, List, [], ◌∷◌, Option, Some, None, Result, Ok, Err, IfOk, length, take, slice_get, ap, sym, subst, append_assoc, ◌∙◌}
use Rattle.std.proofs.lemmas.List.{append-nil, length-take, take-append-le}
use Rattle.c_types.specs.declared.key.ObjectKey.{ObjectKey}
use Rattle.c_types.specs.declared.key.ObjectKey.TheVariants.{Entity as EntityKey, Function as FunctionKey, Text as TextKey, Call as CallKey, Library as LibraryKey, Star}
use Rattle.c_types.specs.declared.key.ObjectKey.TheVariants.{Varargs as VarargsKey, Outside}
use Rattle.c_types.specs.declared.term.TypeId.{TypeId}
use Rattle.c_types.specs.Trees.{Ctype, PointerTo, FunctionFrom}
use Rattle.c_types.specs.Table.{Table, type_of}
use Rattle.core_tree.specs.Typed.{CoreTrees}
use Rattle.call_sites.specs.Signatures.{at_end}
use Rattle.obj_space.specs.View.{view_of}
use Rattle.row_numbers.specs.Functions.{entity_in, key_id, parameters_of}
use Rattle.ref_cells.specs.declared.cells.Cell.{Cell}
use Rattle.ref_cells.specs.declared.cells.Cell.TheVariants.{Unset, Null, Number, Pointer, Function}
use Rattle.ref_cells.specs.declared.cells.Reason.{Reason}
use Rattle.ref_cells.specs.declared.cells.Reason.TheVariants.{BadCall}
use Rattle.ref_cells.specs.declared.cells.Value.{Value}
use Rattle.ref_elements.specs.declared.outcome.Next.{Next}
use Rattle.ref_elements.specs.declared.outcome.Next.TheVariants.{Done, Again, Calls, Keeps, Ends as EndsNext}
use Rattle.ref_elements.specs.Objects.{object_from}
use Rattle.ref_elements.specs.Outcomes.{start_of}
use Rattle.ref_elements.specs.Types.{same_type}
use Rattle.ref_lib.proofs.memory_laws.Steps.{after_any, either}
use Rattle.ref_state.specs.declared.items.Item.{Item}
use Rattle.ref_state.specs.declared.items.Item.TheVariants.{Do, Wait, Library, Result as Returned}
use Rattle.ref_state.specs.declared.frames.Frame.{Frame}
use Rattle.ref_state.specs.declared.state.State.{State}
use Rattle.ref_state.specs.declared.state.StepAnswer.{StepAnswer}
use Rattle.ref_state.specs.declared.state.StepAnswer.TheVariants.{Went, Finished, Stopped}
use Rattle.ref_state.specs.Values.{no_value, cell_of}
use Rattle.ref_statements.specs.Rows.{Row}
use Rattle.ref_statements.specs.Nodes.{do_row, wait_row}
use Rattle.ref_frames.specs.declared.entering.Entry.{Entry}
use Rattle.ref_frames.specs.Running.{Running}
use Rattle.ref_frames.specs.Frames.{entered, handed_over, result_of, left_start, left_with}
use Rattle.ref_calls.specs.Calls.{signature_of}
use Rattle.ref_calls.specs.Reached.{reached}
use Rattle.ref_calls.specs.Library.{performed, comparison_of, back_by, goes_by, library_row}
use Rattle.ref_calls.specs.Lists.{taken_at, next_row}
use Rattle.ref_calls.specs.Outcomes.{Outcome, Goes, Ends, Stops, Steps, outcome}
use Rattle.ref_calls.specs.Ending.{entry_of, enters, but_last, last_of, kept_entered, kept_called, end_step}
use Rattle.ref_start.specs.declared.handed.HandedPlaces.{HandedPlaces}
use Rattle.ref_start.specs.Begin.{main_entry, main_of, main_made, begins_at, begins_with, begins, begin}
use Rattle.ref_start.specs.Entries.{Given, handed_as, with_new, with_pointer, given_as, given_under, given_one, given_all, given_to, entered_given, enters_or_ends, starts_by, starts}
use Rattle.ref_start.specs.Handed.{ArePlaces, AreRead}
use Rattle.ref_machine.specs.Step.{placed, called, call_row, calls, takes, waited, leaves, item_step, outside_step, frames_step, step}

-- a list begins with another one
record Begins (old new : List (TypeId × Cell)) : Type 0 where
  more : List (TypeId × Cell)
  is : new ≡ old ++ more

begins_itself : (list : List (TypeId × Cell)) → Begins list list
begins_itself list = record { more = []; is = sym (append-nil list) }

module _ (first : List (TypeId × Cell)) where
  abbrev On : List (TypeId × Cell) → Type 0
  On handed = Begins first handed

  abbrev HS : Result State Reason → Type 0
  HS result = IfOk result (λ (s : State). On s.handed)

  abbrev HO : Outcome → Type 0
  HO (Goes s) = On s.handed
  HO (Ends status) = Unit {0}
  HO (Stops reason n) = Unit {0}

  with_more : (handed more : List (TypeId × Cell)) → On handed → On (handed ++ more)
  with_more handed more h = record { more = h.more ++ more; is = ap (λ (list : List (TypeId × Cell)). list ++ more) h.is ∙ append_assoc first h.more more }

  -- a frame is left

  over : (handed : List (TypeId × Cell)) (o : Option TypeId) (cell : Cell) → On handed → On (handed_over handed o cell)
  over handed None cell h = h
  over handed (Some id) Unset h = h
  over handed (Some id) Null h = h
  over handed (Some id) (Number n) h = h
  over handed (Some id) (Pointer i path past) h = with_more handed ((id, Pointer i path past) ∷ []) h
  over handed (Some id) (Function key) h = with_more handed ((id, Function key) ∷ []) h

  left_start_on : (u : CoreTrees) (entries : List ℕ) (state : State) (f : Frame) (rest : List Frame) (value : Value) → On state.handed
      → On (left_start u entries state f rest value).handed
  left_start_on u [] state f rest value h = h
  left_start_on u (e ∷ entries) state f rest value h = over state.handed (result_of u (entity_in u f.function)) (cell_of value) h

  left_with_on : (w : Running) (state : State) (f : Frame) (rest : List Frame) (value : Value) (call by : Option ℕ) → On state.handed
      → On (left_with w.trees w.entries state f rest value call by).handed
  left_with_on w state f rest value (Some n) by h = h
  left_with_on w state f rest value None (Some k) h = h
  left_with_on w state f rest value None None h = left_start_on w.trees w.entries state f rest value h

  leaves_on : (w : Running) (state : State) (f : Frame) (rest : List Frame) (value : Value) → On state.handed → On (leaves w state f rest value).handed
  leaves_on w state f rest value h = left_with_on w state f rest value f.call f.by h

  -- what an entry is given

  new_on : (table : Table) (number : ℕ) (ty : TypeId) (to : Ctype) (given : Given) → On given.handed → On (with_new table number ty to given).handed
  new_on table number ty (FunctionFrom result parameters form) given h = h
  new_on table number ty to given h = with_more given.handed ((ty, start_of number) ∷ []) h

  pointer_on : (table : Table) (number : ℕ) (ty : TypeId) (to : Ctype) (cells : List Cell) (choice : ℕ) (given : Given) → On given.handed
      → On (with_pointer table number ty to cells choice given).handed
  pointer_on table number ty to cells zero given h = h
  pointer_on table number ty to cells (suc zero) given h = new_on table number ty to given h
  pointer_on table number ty to cells (suc (suc k)) given h = h

  as_on : (table : Table) (count h : ℕ) (ty : TypeId) (t : Ctype) (given : Given) → On given.handed → On (given_as table count h ty t given).handed
  as_on table count h ty (PointerTo to) given k =
      pointer_on table (count + length given.fresh) ty to (handed_as table (PointerTo to) given.handed)
      (h % (length (handed_as table (PointerTo to) given.handed) + 2)) given k
  as_on table count h ty t given k = k

  under_on : (table : Table) (count h : ℕ) (o : Option TypeId) (given : Given) → On given.handed → On (given_under table count h o given).handed
  under_on table count h None given k = k
  under_on table count h (Some ty) given k = as_on table count h ty (type_of table ty.0) given k

  all_on : (u : CoreTrees) (count h : ℕ) (given : Given) (keys : List ObjectKey) → On given.handed → On (given_all u count h given keys).handed
  all_on u count h given [] k = k
  all_on u count h given (key ∷ keys) k = all_on u count h (given_one u count h given key) keys (under_on u.types count h (key_id u key) given k)

  module _ (w : Running) where
    -- calls

    called_on : (state : State) (f : Frame) (rest : List Frame) (n : ℕ) (key : ObjectKey) (values : List Value) → On state.handed → HS (called w state f rest n key values)
    called_on state f rest n (EntityKey e) values h =
        after_any (entered w (length state.memory) (record { function = e; call = Some n; by = None }) values) _ (λ (s : State). On s.handed) (λ made. h)
    called_on state f rest n (FunctionKey k) values h = h
    called_on state f rest n (TextKey k) values h = tt
    called_on state f rest n (CallKey k) values h = tt
    called_on state f rest n (LibraryKey k) values h = tt
    called_on state f rest n (Star k) values h = tt
    called_on state f rest n (VarargsKey k) values h = tt
    called_on state f rest n Outside values h = tt

    call_on : (state : State) (f : Frame) (rest : List Frame) (n : ℕ) (values : List (ℕ × Value)) → On state.handed → HS (call_row w state f rest n values)
    call_on state f rest n values h =
        after_any (reached w.trees n values) _ (λ (s : State). On s.handed) (λ target. called_on state f rest n target.key target.arguments h)

    -- the library

    back_on : (state : State) (f : Frame) (rest : List Frame) (n by : ℕ) (values : List Value) (key : ObjectKey) → On state.handed → HS (back_by w state f rest n by values key)
    back_on state f rest n by values (EntityKey e) h =
        after_any (entered w (length state.memory) (record { function = e; call = None; by = Some by }) values) _ (λ (s : State). On s.handed) (λ made. h)
    back_on state f rest n by values (FunctionKey k) h = h
    back_on state f rest n by values (TextKey k) h = tt
    back_on state f rest n by values (CallKey k) h = tt
    back_on state f rest n by values (LibraryKey k) h = tt
    back_on state f rest n by values (Star k) h = tt
    back_on state f rest n by values (VarargsKey k) h = tt
    back_on state f rest n by values Outside h = tt

    goes_on : (state : State) (f : Frame) (rest : List Frame) (n k : ℕ) (value : Value) (stores : List (Cell × Cell)) (next : Next) → On state.handed
        → HS (goes_by w state f rest n k value stores next)
    goes_on state f rest n k value stores Done h = h
    goes_on state f rest n k value stores Again h = h
    goes_on state f rest n k value stores (Calls callee values) h =
        after_any (comparison_of w.trees callee) _ (λ (s : State). On s.handed) (λ key. back_on state f rest n k values key h)
    goes_on state f rest n k value stores (Keeps cell) h = h
    goes_on state f rest n k value stores (EndsNext status at_once) h = h

    library_on : (state : State) (f : Frame) (rest : List Frame) (n k : ℕ) (values : List Value) (word : ℕ) → On state.handed → HS (library_row w state f rest n k values word)
    unfolding library_row
    library_on state f rest n k values word h =
        after_any (performed w state.memory n k values word) _ (λ (s : State). On s.handed)
        (λ e. goes_on (record state { memory = e.memory }) f rest n k e.outcome.value e.outcome.stores e.outcome.next h)

    -- the beginning and the end

    begins_at_on : (state : State) (main word : ℕ) (o : Option ℕ) → On state.handed → HS (begins_at w state main word o)
    begins_at_on state main word None h = tt
    begins_at_on state main word (Some argv) h =
        after_any (main_made w (length state.memory) argv main word) _ (λ (s : State). On s.handed) (λ made. h)

    begins_with_on : (state : State) (main word : ℕ) (keys : List ObjectKey) → On state.handed → HS (begins_with w state main word keys)
    begins_with_on state main word [] h =
        after_any (entered w (length state.memory) (main_entry main) []) _ (λ (s : State). On s.handed) (λ made. h)
    begins_with_on state main word (key ∷ rest) h = begins_at_on state main word (object_from 9 0 state.memory) h

    begins_on : (state : State) (word : ℕ) (o : Option ℕ) → On state.handed → HS (begins w state word o)
    begins_on state word None h = tt
    begins_on state word (Some main) h = begins_with_on state main word (parameters_of w.trees (view_of w.space) main) h

    begin_on : (state : State) (word : ℕ) → On state.handed → HS (begin w state word)
    unfolding begin
    begin_on state word h = begins_on state word (main_of w.trees) h

    entry_on : (state : State) (e : ℕ) (given : Given) → On given.handed → HS (entered_given w state e given)
    entry_on state e given h =
        after_any (entered w (length state.memory + length given.fresh) (main_entry e) given.arguments) _ (λ (s : State). On s.handed) (λ made. h)

    one_on : (state : State) (h : ℕ) (o : Option ℕ) → On state.handed → HS (enters_or_ends w state h o)
    one_on state h None k = k
    one_on state h (Some e) k =
        entry_on state e (given_to w state e h)
        (all_on w.trees (length state.memory) h (record { fresh = []; handed = state.handed; arguments = [] }) (parameters_of w.trees (view_of w.space) e) k)

    starts_by_on : (state : State) (word : ℕ) (entries : List ℕ) → On state.handed → HS (starts_by w state word entries)
    starts_by_on state word [] h = begin_on state word h
    starts_by_on state word (e ∷ entries) h =
        one_on state (word / (length (e ∷ entries) + 1)) (slice_get (e ∷ entries) (word % (length (e ∷ entries) + 1))) h

    starts_on : (state : State) (word : ℕ) → On state.handed → HS (starts w state word)
    unfolding starts
    starts_on state word h = starts_by_on state word w.entries h

    enters_on : (state : State) (entry : Entry) (values : List Value) → On state.handed → HS (enters w state entry values)
    enters_on state entry values h = after_any (entered w (length state.memory) entry values) _ (λ (s : State). On s.handed) (λ made. h)

    kept_entered_on : (state : State) (key : ObjectKey) (n : ℕ) → On state.handed → HS (kept_entered w state key n)
    kept_entered_on state (EntityKey e) n h = enters_on state (entry_of e (Some 24)) [] h
    kept_entered_on state (FunctionKey k) n h = h
    kept_entered_on state (TextKey k) n h = tt
    kept_entered_on state (CallKey k) n h = tt
    kept_entered_on state (LibraryKey k) n h = tt
    kept_entered_on state (Star k) n h = tt
    kept_entered_on state (VarargsKey k) n h = tt
    kept_entered_on state Outside n h = tt

    outcome_on : (n : ℕ) (r : Result State Reason) → HS r → HO (outcome n r)
    outcome_on n (Ok s) h = h
    outcome_on n (Err reason) h = tt

    end_on : (state : State) (status : ℤ) (o : Option (ObjectKey × ℕ)) → On state.handed → HO (end_step w state status o)
    end_on state status None h = tt
    end_on state status (Some kept) h =
        outcome_on kept.1 (kept_called w state kept.0 kept.1)
        (either (same_type (signature_of w.trees kept.0) at_end) (kept_entered w (record state { kept = but_last state.kept }) kept.0 kept.1) (Err BadCall)
        (λ (s : State). On s.handed)
        (kept_entered_on (record state { kept = but_last state.kept }) kept.0 kept.1 h) tt)

    -- the step

    placed_on : (state : State) (rest : List Frame) (row : Row) → On state.handed → HS (placed state rest row)
    placed_on state rest (Ok next) h = h
    placed_on state rest (Err reason) h = tt

    next_on : (state : State) (f : Frame) (rest : List Frame) (n : ℕ) (values : List (ℕ × Value)) → On state.handed → HS (next_row w state f rest n values)
    unfolding next_row
    next_on state f rest n values h =
        after_any (taken_at w state.memory (f ∷ rest) (slice_get w.trees.nodes n) values) _ (λ (s : State). On s.handed) (λ e. h)

    waited_on : (state : State) (f : Frame) (rest : List Frame) (n : ℕ) (operands : List ℕ) (values : List (ℕ × Value)) (word : ℕ) → On state.handed
        → HS (waited w state f rest n operands values word)
    waited_on state f rest n operands values word h =
        either (calls w.trees n operands) _ _ (λ (s : State). On s.handed) (call_on state f rest n values h)
        (either (takes w.trees n operands) _ _ (λ (s : State). On s.handed) (next_on state f rest n values h)
        (placed_on state rest (wait_row w.trees state.memory f n operands values word) h))

    item_on : (state : State) (f : Frame) (rest : List Frame) (items : List Item) (word : ℕ) → On state.handed → HO (item_step w state f rest items word)
    item_on state f rest [] word h = leaves_on w state f rest no_value h
    item_on state f rest (Do n ∷ items) word h =
        outcome_on n (placed state rest (do_row w.trees state.memory f n word)) (placed_on state rest (do_row w.trees state.memory f n word) h)
    item_on state f rest (Wait n operands values ∷ items) word h =
        outcome_on n (waited w state f rest n operands values word) (waited_on state f rest n operands values word h)
    item_on state f rest (Library n k values ∷ items) word h =
        outcome_on n (library_row w state f rest n k values word) (library_on state f rest n k values word h)
    item_on state f rest (Returned value ∷ items) word h = leaves_on w state f rest value h

    outside_on : (state : State) (status : Option ℤ) (word : ℕ) → On state.handed → HO (outside_step w state status word)
    outside_on state None word h = outcome_on 0 (starts w state word) (starts_on state word h)
    outside_on state (Some status) word h = end_on state status (last_of state.kept) h

    frames_on : (state : State) (frames : List Frame) (word : ℕ) → On state.handed → HO (frames_step w state frames word)
    frames_on state [] word h = outside_on state state.status word h
    frames_on state (f ∷ rest) word h = item_on state f rest f.items word h

    step_on : (state : State) (word : ℕ) → On state.handed → HO (step w state word)
    unfolding step
    step_on state word h = frames_on state state.frames word h

-- what a step answers leaves what was handed over
after_step : {E : Type 0} (result : Result StepAnswer E) (old new : State) (given : Outcome) → Steps result old new given → HO old.handed given → Begins old.handed new.handed
after_step (Ok Went) old new given e k = subst (HO old.handed) e k
after_step (Ok (Finished status)) old new given e k = subst (λ (s : State). Begins old.handed s.handed) (sym e.1) (begins_itself old.handed)
after_step (Ok (Stopped reason n)) old new given e k = subst (λ (s : State). Begins old.handed s.handed) (sym e.1) (begins_itself old.handed)
after_step (Err x) old new given e k = subst (λ (s : State). Begins old.handed s.handed) (sym e) (begins_itself old.handed)

-- what is kept of it stays right
still_read : (table : Table) (old new : List (TypeId × Cell)) (kept : HandedPlaces) → Begins old new → AreRead table old kept → AreRead table new kept
still_read table old new kept b h =
    let within : kept.read ≤ length old = omega (arith, h.read, length-take kept.read old) in
    subst (λ (list : List (TypeId × Cell)). ArePlaces table list kept)
    (sym (ap (take kept.read) b.is ∙ take-append-le kept.read old b.more within)) h

pub read_after : {E : Type 0} (w : Running) (table : Table) (result : Result StepAnswer E) (old new : State) (word : ℕ) (kept : HandedPlaces)
    → Steps result old new (step w old word) → AreRead table old.handed kept → AreRead table new.handed kept
read_after w table result old new word kept e h =
    still_read table old.handed new.handed kept
    (after_step result old new (step w old word) e (step_on old.handed w old word (begins_itself old.handed))) h
