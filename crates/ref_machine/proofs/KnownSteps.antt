-- A step leaves the types of instances those of the machine's table, and their keys.
use Rattle.std.proofs.Common.{◌≡◌, ℕ, suc, ℤ, ◌+◌, ◌/◌, ◌%◌, ◌++◌, ◌<◌, Bool, true, false, List, [], ◌∷◌, Option, Some, None, Result, Ok, Err, IfOk, length, slice_get, refl, sym, subst}
use Rattle.std.specs.Prelude.{find, drop, if◌then◌else◌}
use Rattle.std.specs.Option.{option_map}
use Rattle.std.proofs.lemmas.List.Elements.{All-nil, All-cons, All-append, All-replicate}
use Rattle.c_types.specs.declared.key.ObjectKey.{ObjectKey}
use Rattle.c_types.specs.declared.key.ObjectKey.TheVariants.{Entity as EntityKey, Function as FunctionKey, Text as TextKey, Call as CallKey, Library as LibraryKey, Star}
use Rattle.c_types.specs.declared.key.ObjectKey.TheVariants.{Varargs as VarargsKey, Outside}
use Rattle.c_types.specs.declared.term.TypeId.{TypeId}
use Rattle.c_types.specs.Trees.{Ctype}
use Rattle.core_tree.specs.declared.node.Entity.{Entity}
use Rattle.obj_space.specs.declared.location.Location.{Location}
use Rattle.obj_space.specs.View.{view_of, first_from}
use Rattle.row_numbers.specs.Objects.{is_library, library_id}
use Rattle.row_numbers.specs.Functions.{key_id, parameters_of}
use Rattle.row_numbers.specs.Setting.{takes_further}
use Rattle.c_types.specs.Table.{type_of}
use Rattle.ref_mem.specs.Arguments.{arguments_object}
use Rattle.ref_cells.specs.declared.cells.Cell.{Cell}
use Rattle.call_sites.specs.Signatures.{at_end, called_type}
use Rattle.ref_cells.specs.declared.cells.Reason.{Reason}
use Rattle.ref_cells.specs.declared.cells.Reason.TheVariants.{BadCall}
use Rattle.ref_elements.specs.Types.{same_type}
use Rattle.ref_cells.specs.declared.cells.Value.{Value}
use Rattle.ref_cells.specs.declared.instance.Instance.{Instance}
use Rattle.ref_cells.specs.Cells.{CellList}
use Rattle.ref_cells.specs.Places.{IsKnown, AreKnown}
use Rattle.ref_elements.specs.declared.outcome.Next.{Next}
use Rattle.ref_elements.specs.declared.outcome.Next.TheVariants.{Done, Again, Calls, Keeps, Ends as EndsNext}
use Rattle.ref_elements.specs.Outcomes.{Effected}
use Rattle.ref_elements.specs.Objects.{object_from}
use Rattle.ref_elements.specs.Runs.{◌>>=◌}
use Rattle.ref_mem.specs.Writes.{changed}
use Rattle.ref_lib.specs.memory_laws.Kept.{Follows}
use Rattle.ref_lib.proofs.memory_laws.Steps.{after_any, and_then, either}
use Rattle.ref_lib.proofs.memory_laws.Effects.{effect_leaves}
use Rattle.ref_state.specs.declared.items.Item.{Item}
use Rattle.ref_state.specs.declared.items.Item.TheVariants.{Do, Wait, Library, Result as Returned}
use Rattle.ref_state.specs.declared.frames.Frame.{Frame}
use Rattle.ref_state.specs.declared.state.State.{State}
use Rattle.ref_state.specs.Values.{no_value}
use Rattle.ref_state.specs.Changes.{ended_all}
use Rattle.ref_statements.specs.Rows.{Row, Next as RowNext}
use Rattle.ref_statements.specs.Nodes.{do_row, wait_row}
use Rattle.ref_frames.specs.declared.entering.Entry.{Entry}
use Rattle.ref_frames.specs.declared.entering.Activation.{Activation}
use Rattle.ref_frames.specs.Running.{Running, location_in, element_by, element_type}
use Rattle.ref_frames.specs.OnTop.{only, on_top}
use Rattle.ref_frames.specs.Frames.{parameter_object, parameter_objects, further_objects, entered_objects, list_of, activation, activation_over, activation_by, activation_of, entered, have_types, all_ended, left_start, left_with}
use Rattle.ref_calls.specs.Calls.{signature_of}
use Rattle.ref_calls.specs.Reached.{reached}
use Rattle.ref_calls.specs.Library.{object_of, result_in, term_in, performed_as, performed, comparison_of, back_by, goes_by, library_row}
use Rattle.ref_state.specs.declared.state.StepAnswer.{StepAnswer}
use Rattle.ref_state.specs.declared.state.StepAnswer.TheVariants.{Went, Finished, Stopped}
use Rattle.ref_calls.specs.Outcomes.{Outcome, Goes, Ends, Stops, Steps, outcome}
use Rattle.ref_calls.specs.Ending.{entry_of, enters, but_last, last_of, kept_entered, kept_called, end_step}
use Rattle.ref_start.specs.Entries.{Given, given_to, entered_given, enters_or_ends, starts_by, starts}
use Rattle.ref_start.specs.Begin.{text_of_word, texts, main_entry, made_by, begun, begins_at, begins_with, begins, begin, main_of}
use Rattle.core_tree.specs.declared.node.Node.{Node}
use Rattle.core_tree.specs.Typed.{type_at}
use Rattle.ref_state.specs.Values.{cell_in}
use Rattle.ref_calls.specs.Lists.{taken, taken_over, taken_at, next_row}
use Rattle.ref_machine.specs.Step.{placed, called, call_row, calls, takes, waited, leaves, item_step, outside_step, frames_step, step}
use Rattle.ref_machine.specs.Machines.{IsGrounded}
use Rattle.ref_machine.specs.Standing.{IsAfter}
use Rattle.ref_machine.proofs.Known.{after_itself, joined_known, followed, changed_known, ended_known}
use Rattle.ref_machine.proofs.KnownRows.{do_kept, wait_kept, put_back_kept}
use Rattle.ref_machine.proofs.KnownEntries.{all_given}

module _ (w : Running) (first : List Instance) (g : IsGrounded w) where
  abbrev KS : Result State Reason → Type 0
  KS result = IfOk result (λ (s : State). IsAfter (length w.trees.types.terms) first s.memory)

  abbrev KO : Outcome → Type 0
  KO (Goes s) = IsAfter (length w.trees.types.terms) first s.memory
  KO (Ends status) = Unit {0}
  KO (Stops reason n) = Unit {0}

  abbrev KA : Result Activation Reason → Type 0
  KA result = IfOk result (λ (made : Activation). AreKnown (length w.trees.types.terms) made.fresh)

  found_known : (p : Entity → Bool) (entities : List Entity) → ((i : ℕ) (x : Entity) → slice_get entities i ≡ Some x → x.ty.0 < length w.trees.types.terms)
      → IsKnown (length w.trees.types.terms) (option_map (λ (x : Entity). x.ty) (find p entities))
  found_known p [] h = tt
  found_known p (x ∷ rest) h = at (p x) (h 0 x refl) (found_known p rest (λ i y e. h (suc i) y e))
    where
      at : (b : Bool) → x.ty.0 < length w.trees.types.terms → IsKnown (length w.trees.types.terms) (option_map (λ (y : Entity). y.ty) (find p rest))
          → IsKnown (length w.trees.types.terms) (option_map (λ (y : Entity). y.ty) (if b then Some x else find p rest))
      at true first others = first
      at false first others = others

  key_known : (key : ObjectKey) → IsKnown (length w.trees.types.terms) (key_id w.trees key)
  key_known (EntityKey e) = at (slice_get w.trees.entities e) refl
    where
      at : (o : Option Entity) → slice_get w.trees.entities e ≡ o → IsKnown (length w.trees.types.terms) (option_map (λ (x : Entity). x.ty) o)
      at None h = tt
      at (Some x) h = g.range.entity_types e x h
  key_known (FunctionKey k) = found_known (is_library k) w.trees.entities g.range.entity_types
  key_known (TextKey n) = tt
  key_known (CallKey n) = tt
  key_known (LibraryKey n) = tt
  key_known (Star n) = tt
  key_known (VarargsKey n) = tt
  key_known Outside = tt

  parameters_known : (keys : List ObjectKey) (values : List Value) → AreKnown (length w.trees.types.terms) (parameter_objects w.trees keys values)
  parameters_known [] values = All-nil (λ (inst : Instance). IsKnown (length w.trees.types.terms) inst.ty)
  parameters_known (key ∷ keys) [] = All-nil (λ (inst : Instance). IsKnown (length w.trees.types.terms) inst.ty)
  parameters_known (key ∷ keys) (value ∷ values) =
      All-cons (λ (inst : Instance). IsKnown (length w.trees.types.terms) inst.ty) (parameter_object w.trees key value) (parameter_objects w.trees keys values)
      (key_known key) (parameters_known keys values)

  further_known : (b : Bool) (key : ObjectKey) (values : List Value)
      → AreKnown (length w.trees.types.terms) (if b then arguments_object key values ∷ [] else [])
  further_known true key values =
      All-cons (λ (inst : Instance). IsKnown (length w.trees.types.terms) inst.ty) (arguments_object key values) []
      tt (All-nil (λ (inst : Instance). IsKnown (length w.trees.types.terms) inst.ty))
  further_known false key values = All-nil (λ (inst : Instance). IsKnown (length w.trees.types.terms) inst.ty)

  objects_known : (t : Ctype) (function : ℕ) (keys : List ObjectKey) (values : List Value)
      → AreKnown (length w.trees.types.terms) (entered_objects w.trees t function keys values)
  objects_known t function keys values =
      All-append (λ (inst : Instance). IsKnown (length w.trees.types.terms) inst.ty) (parameter_objects w.trees keys values)
      (further_objects t function (drop (length keys) values)) (parameters_known keys values)
      (further_known (takes_further t) (VarargsKey function) (drop (length keys) values))

  over_kept : (count : ℕ) (entry : Entry) (values : List Value) (t : Ctype) (keys : List ObjectKey) (body : ℕ) → KA (activation_over w count entry values t keys body)
  over_kept count entry values t keys body =
      either (have_types w.trees keys (list_of (called_type t))) (Ok (activation entry count body (entered_objects w.trees t entry.function keys values))) _
      (λ made. AreKnown (length w.trees.types.terms) made.fresh) (objects_known t entry.function keys values) tt

  by_kept : (count : ℕ) (entry : Entry) (values : List Value) (t : Ctype) (o : Option ℕ) → KA (activation_by w count entry values t o)
  by_kept count entry values t None = tt
  by_kept count entry values t (Some body) = over_kept count entry values t (parameters_of w.trees (view_of w.space) entry.function) body

  of_kept : (count : ℕ) (entry : Entry) (values : List Value) (o : Option Entity) → KA (activation_of w count entry values o)
  of_kept count entry values None = tt
  of_kept count entry values (Some entity) = by_kept count entry values (type_of w.trees.types entity.ty.0) entity.body

  entered_kept : (count : ℕ) (entry : Entry) (values : List Value) → KA (entered w count entry values)
  unfolding entered
  entered_kept count entry values = of_kept count entry values (slice_get w.trees.entities entry.function)

  all_ended_known : (memory : List Instance) (frames : List Frame) → IsAfter (length w.trees.types.terms) first memory → IsAfter (length w.trees.types.terms) first (all_ended memory frames)
  all_ended_known memory [] h = h
  all_ended_known memory (f ∷ rest) h = all_ended_known (ended_all memory f.instances) rest (ended_known (length w.trees.types.terms) first memory f.instances h)

  left_start_known : (entries : List ℕ) (state : State) (f : Frame) (rest : List Frame) (value : Value) → IsAfter (length w.trees.types.terms) first state.memory
      → IsAfter (length w.trees.types.terms) first (left_start w.trees entries state f rest value).memory
  left_start_known [] state f rest value h = all_ended_known state.memory state.frames h
  left_start_known (e ∷ entries) state f rest value h = ended_known (length w.trees.types.terms) first state.memory f.instances h

  left_with_known : (state : State) (f : Frame) (rest : List Frame) (value : Value) (call by : Option ℕ) → IsAfter (length w.trees.types.terms) first state.memory
      → IsAfter (length w.trees.types.terms) first (left_with w.trees w.entries state f rest value call by).memory
  left_with_known state f rest value (Some n) by h = ended_known (length w.trees.types.terms) first state.memory f.instances h
  left_with_known state f rest value None (Some k) h = ended_known (length w.trees.types.terms) first state.memory f.instances h
  left_with_known state f rest value None None h = left_start_known w.entries state f rest value h

  leaves_known : (state : State) (f : Frame) (rest : List Frame) (value : Value) → IsAfter (length w.trees.types.terms) first state.memory
      → IsAfter (length w.trees.types.terms) first (leaves w state f rest value).memory
  leaves_known state f rest value h = left_with_known state f rest value f.call f.by h

  -- calls

  called_kept : (state : State) (f : Frame) (rest : List Frame) (n : ℕ) (key : ObjectKey) (values : List Value) → IsAfter (length w.trees.types.terms) first state.memory
      → KS (called w state f rest n key values)
  called_kept state f rest n (EntityKey e) values h =
      and_then (entered w (length state.memory) (record { function = e; call = Some n; by = None }) values) _
      (λ (made : Activation). AreKnown (length w.trees.types.terms) made.fresh) (λ (s : State). IsAfter (length w.trees.types.terms) first s.memory)
      (entered_kept (length state.memory) (record { function = e; call = Some n; by = None }) values)
      (λ made k. joined_known (length w.trees.types.terms) first state.memory made.fresh h k)
  called_kept state f rest n (FunctionKey k) values h = h
  called_kept state f rest n (TextKey k) values h = tt
  called_kept state f rest n (CallKey k) values h = tt
  called_kept state f rest n (LibraryKey k) values h = tt
  called_kept state f rest n (Star k) values h = tt
  called_kept state f rest n (VarargsKey k) values h = tt
  called_kept state f rest n Outside values h = tt

  call_kept : (state : State) (f : Frame) (rest : List Frame) (n : ℕ) (values : List (ℕ × Value)) → IsAfter (length w.trees.types.terms) first state.memory
      → KS (call_row w state f rest n values)
  call_kept state f rest n values h =
      after_any (reached w.trees n values) _ (λ (s : State). IsAfter (length w.trees.types.terms) first s.memory)
      (λ target. called_kept state f rest n target.key target.arguments h)

  -- the library

  element_known : (o : Option ℕ) → IsKnown (length w.trees.types.terms) (element_by w.characters (location_in w.space o))
  element_known None = tt
  element_known (Some l) = at (slice_get w.space l) refl
    where
      at : (o : Option Location) → slice_get w.space l ≡ o → IsKnown (length w.trees.types.terms) (element_by w.characters o)
      at None e = tt
      at (Some x) e = g.elements l x e

  performed_kept : (memory : List Instance) (n k : ℕ) (values : List Value) (word : ℕ) (o : Option TypeId) → IsAfter (length w.trees.types.terms) first memory
      → IfOk (performed_as w memory n k values word o) (λ (e : Effected). IsAfter (length w.trees.types.terms) first e.memory)
  performed_kept memory n k values word None h = tt
  performed_kept memory n k values word (Some result) h = at _ _ (effect_leaves w.trees.types g.named g.made memory h.known k (object_of w.trees n k)
      (element_type w (object_of w.trees n k)) result values word (element_known (first_from 0 w.space (object_of w.trees n k))))
    where
      at : (r : Result Effected Reason) (ends : Option ℕ) → IfOk r (λ (e : Effected). Follows (length w.trees.types.terms) ends memory e.memory)
          → IfOk r (λ (e : Effected). IsAfter (length w.trees.types.terms) first e.memory)
      at (Ok e) ends f = followed (length w.trees.types.terms) ends first memory e.memory f h
      at (Err reason) ends f = tt

  back_kept : (state : State) (f : Frame) (rest : List Frame) (n by : ℕ) (values : List Value) (key : ObjectKey) → IsAfter (length w.trees.types.terms) first state.memory
      → KS (back_by w state f rest n by values key)
  back_kept state f rest n by values (EntityKey e) h =
      and_then (entered w (length state.memory) (record { function = e; call = None; by = Some by }) values) _
      (λ (made : Activation). AreKnown (length w.trees.types.terms) made.fresh) (λ (s : State). IsAfter (length w.trees.types.terms) first s.memory)
      (entered_kept (length state.memory) (record { function = e; call = None; by = Some by }) values)
      (λ made k. joined_known (length w.trees.types.terms) first state.memory made.fresh h k)
  back_kept state f rest n by values (FunctionKey k) h = h
  back_kept state f rest n by values (TextKey k) h = tt
  back_kept state f rest n by values (CallKey k) h = tt
  back_kept state f rest n by values (LibraryKey k) h = tt
  back_kept state f rest n by values (Star k) h = tt
  back_kept state f rest n by values (VarargsKey k) h = tt
  back_kept state f rest n by values Outside h = tt

  goes_kept : (state : State) (f : Frame) (rest : List Frame) (n k : ℕ) (value : Value) (stores : List (Cell × Cell)) (next : Next) → IsAfter (length w.trees.types.terms) first state.memory
      → KS (goes_by w state f rest n k value stores next)
  goes_kept state f rest n k value stores Done h = h
  goes_kept state f rest n k value stores Again h = h
  goes_kept state f rest n k value stores (Calls callee values) h =
      after_any (comparison_of w.trees callee) _ (λ (s : State). IsAfter (length w.trees.types.terms) first s.memory)
      (λ key. back_kept state f rest n k values key h)
  goes_kept state f rest n k value stores (Keeps cell) h = h
  goes_kept state f rest n k value stores (EndsNext status at_once) h = all_ended_known state.memory (f ∷ rest) h

  library_kept : (state : State) (f : Frame) (rest : List Frame) (n k : ℕ) (values : List Value) (word : ℕ) → IsAfter (length w.trees.types.terms) first state.memory
      → KS (library_row w state f rest n k values word)
  unfolding library_row performed
  library_kept state f rest n k values word h =
      and_then (performed w state.memory n k values word) _
      (λ (e : Effected). IsAfter (length w.trees.types.terms) first e.memory) (λ (s : State). IsAfter (length w.trees.types.terms) first s.memory)
      (performed_kept state.memory n k values word (result_in (term_in w.trees (library_id k w.trees.entities))) h)
      (λ e known. goes_kept (record state { memory = e.memory }) f rest n k e.outcome.value e.outcome.stores e.outcome.next known)

  -- the beginning and the end

  enters_kept : (state : State) (entry : Entry) (values : List Value) → IsAfter (length w.trees.types.terms) first state.memory → KS (enters w state entry values)
  enters_kept state entry values h =
      and_then (entered w (length state.memory) entry values) _
      (λ (made : Activation). AreKnown (length w.trees.types.terms) made.fresh) (λ (s : State). IsAfter (length w.trees.types.terms) first s.memory)
      (entered_kept (length state.memory) entry values)
      (λ made k. joined_known (length w.trees.types.terms) first state.memory made.fresh h k)

  begun_kept : (state : State) (argv main count word : ℕ) → IsAfter (length w.trees.types.terms) first state.memory
      → KS (made_by w (length state.memory) argv main count word >>= λ made. Ok (begun state argv made))
  begun_kept state argv main count word h =
      and_then (made_by w (length state.memory) argv main count word) _
      (λ (made : CellList × Activation). AreKnown (length w.trees.types.terms) made.1.fresh) (λ (s : State). IsAfter (length w.trees.types.terms) first s.memory)
      (and_then (entered w (length state.memory + count) (main_entry main) _) _
      (λ (made : Activation). AreKnown (length w.trees.types.terms) made.fresh) (λ (made : CellList × Activation). AreKnown (length w.trees.types.terms) made.1.fresh)
      (entered_kept (length state.memory + count) (main_entry main) _)
      (λ made k. All-append (λ (inst : Instance). IsKnown (length w.trees.types.terms) inst.ty) (texts w count word) made.fresh
      (All-replicate (λ (inst : Instance). IsKnown (length w.trees.types.terms) inst.ty) count (text_of_word w word) g.texts) k))
      (λ made k. joined_known (length w.trees.types.terms) first (changed state.memory argv (slice_get state.memory argv) (λ inst. record inst { cells = made.0 })) made.1.fresh
      (changed_known (length w.trees.types.terms) first state.memory argv (λ inst. record inst { cells = made.0 }) h (λ a q. q) (λ a. refl)) k)

  alone_kept : (state : State) (main : ℕ) → IsAfter (length w.trees.types.terms) first state.memory
      → KS (entered w (length state.memory) (main_entry main) [] >>= λ made. Ok (on_top state state.frames (only []) made))
  alone_kept state main h =
      and_then (entered w (length state.memory) (main_entry main) []) _
      (λ (made : Activation). AreKnown (length w.trees.types.terms) made.fresh) (λ (s : State). IsAfter (length w.trees.types.terms) first s.memory)
      (entered_kept (length state.memory) (main_entry main) [])
      (λ made k. joined_known (length w.trees.types.terms) first state.memory made.fresh h k)

  begins_at_kept : (state : State) (main word : ℕ) (o : Option ℕ) → IsAfter (length w.trees.types.terms) first state.memory → KS (begins_at w state main word o)
  begins_at_kept state main word None h = tt
  begins_at_kept state main word (Some argv) h = begun_kept state argv main (1 + word % 8) word h

  begins_with_kept : (state : State) (main word : ℕ) (keys : List ObjectKey) → IsAfter (length w.trees.types.terms) first state.memory → KS (begins_with w state main word keys)
  begins_with_kept state main word [] h = alone_kept state main h
  begins_with_kept state main word (key ∷ rest) h = begins_at_kept state main word (object_from 9 0 state.memory) h

  begins_kept : (state : State) (word : ℕ) (o : Option ℕ) → IsAfter (length w.trees.types.terms) first state.memory → KS (begins w state word o)
  begins_kept state word None h = tt
  begins_kept state word (Some main) h = begins_with_kept state main word (parameters_of w.trees (view_of w.space) main) h

  begin_kept : (state : State) (word : ℕ) → IsAfter (length w.trees.types.terms) first state.memory → KS (begin w state word)
  unfolding begin
  begin_kept state word h = begins_kept state word (main_of w.trees) h

  -- entries

  given_kept : (state : State) (e h : ℕ) → AreKnown (length w.trees.types.terms) (given_to w state e h).fresh
  given_kept state e h =
      all_given w.trees (length state.memory) h (record { fresh = []; handed = state.handed; arguments = [] })
      (parameters_of w.trees (view_of w.space) e) (All-nil (λ (inst : Instance). IsKnown (length w.trees.types.terms) inst.ty))

  entry_kept : (state : State) (e : ℕ) (given : Given) → AreKnown (length w.trees.types.terms) given.fresh → IsAfter (length w.trees.types.terms) first state.memory
      → KS (entered_given w state e given)
  entry_kept state e given known h =
      and_then (entered w (length state.memory + length given.fresh) (main_entry e) given.arguments) _
      (λ (made : Activation). AreKnown (length w.trees.types.terms) made.fresh) (λ (s : State). IsAfter (length w.trees.types.terms) first s.memory)
      (entered_kept (length state.memory + length given.fresh) (main_entry e) given.arguments)
      (λ made k. joined_known (length w.trees.types.terms) first (state.memory ++ given.fresh) made.fresh
      (joined_known (length w.trees.types.terms) first state.memory given.fresh h known) k)

  one_kept : (state : State) (h : ℕ) (o : Option ℕ) → IsAfter (length w.trees.types.terms) first state.memory → KS (enters_or_ends w state h o)
  one_kept state h None k = all_ended_known state.memory state.frames k
  one_kept state h (Some e) k = entry_kept state e (given_to w state e h) (given_kept state e h) k

  starts_by_kept : (state : State) (word : ℕ) (entries : List ℕ) → IsAfter (length w.trees.types.terms) first state.memory → KS (starts_by w state word entries)
  starts_by_kept state word [] h = begin_kept state word h
  starts_by_kept state word (e ∷ entries) h =
      one_kept state (word / (length (e ∷ entries) + 1)) (slice_get (e ∷ entries) (word % (length (e ∷ entries) + 1))) h

  starts_kept : (state : State) (word : ℕ) → IsAfter (length w.trees.types.terms) first state.memory → KS (starts w state word)
  unfolding starts
  starts_kept state word h = starts_by_kept state word w.entries h

  kept_entered_kept : (state : State) (key : ObjectKey) (n : ℕ) → IsAfter (length w.trees.types.terms) first state.memory → KS (kept_entered w state key n)
  kept_entered_kept state (EntityKey e) n h = enters_kept state (entry_of e (Some 24)) [] h
  kept_entered_kept state (FunctionKey k) n h = h
  kept_entered_kept state (TextKey k) n h = tt
  kept_entered_kept state (CallKey k) n h = tt
  kept_entered_kept state (LibraryKey k) n h = tt
  kept_entered_kept state (Star k) n h = tt
  kept_entered_kept state (VarargsKey k) n h = tt
  kept_entered_kept state Outside n h = tt

  outcome_kept : (n : ℕ) (r : Result State Reason) → KS r → KO (outcome n r)
  outcome_kept n (Ok s) h = h
  outcome_kept n (Err reason) h = tt

  end_kept : (state : State) (status : ℤ) (o : Option (ObjectKey × ℕ)) → IsAfter (length w.trees.types.terms) first state.memory → KO (end_step w state status o)
  end_kept state status None h = tt
  end_kept state status (Some kept) h =
      outcome_kept kept.1 (kept_called w state kept.0 kept.1)
      (either (same_type (signature_of w.trees kept.0) at_end) (kept_entered w (record state { kept = but_last state.kept }) kept.0 kept.1) (Err BadCall)
      (λ (s : State). IsAfter (length w.trees.types.terms) first s.memory)
      (kept_entered_kept (record state { kept = but_last state.kept }) kept.0 kept.1 h) tt)

  -- the step

  placed_kept : (state : State) (rest : List Frame) (row : Row) → IfOk row (λ (next : RowNext). IsAfter (length w.trees.types.terms) first next.memory) → KS (placed state rest row)
  placed_kept state rest (Ok next) h = h
  placed_kept state rest (Err reason) h = tt

  next_over_kept : (state : State) (frames : List Frame) (t : Ctype) (children : List ℕ) (values : List (ℕ × Value)) → IsAfter (length w.trees.types.terms) first state.memory
      → IfOk (taken_over w state.memory frames t children values) (λ (e : Effected). IsAfter (length w.trees.types.terms) first e.memory)
  next_over_kept state frames t [] values h = tt
  next_over_kept state frames t (p ∷ []) values h =
      after_any (taken w state.memory frames (cell_in values p) (type_at w.trees p) t) _ (λ (e : Effected). IsAfter (length w.trees.types.terms) first e.memory)
      (λ next. put_back_kept w.trees first g.range state.memory h (type_at w.trees p) next)
  next_over_kept state frames t (p ∷ q ∷ children) values h = tt

  next_at_kept : (state : State) (frames : List Frame) (o : Option Node) (values : List (ℕ × Value)) → IsAfter (length w.trees.types.terms) first state.memory
      → IfOk (taken_at w state.memory frames o values) (λ (e : Effected). IsAfter (length w.trees.types.terms) first e.memory)
  next_at_kept state frames None values h = tt
  next_at_kept state frames (Some node) values h = next_over_kept state frames (type_of w.trees.types node.ty.0) node.children values h

  next_kept : (state : State) (f : Frame) (rest : List Frame) (n : ℕ) (values : List (ℕ × Value)) → IsAfter (length w.trees.types.terms) first state.memory
      → KS (next_row w state f rest n values)
  unfolding next_row
  next_kept state f rest n values h =
      and_then (taken_at w state.memory (f ∷ rest) (slice_get w.trees.nodes n) values) _
      (λ (e : Effected). IsAfter (length w.trees.types.terms) first e.memory) (λ (s : State). IsAfter (length w.trees.types.terms) first s.memory)
      (next_at_kept state (f ∷ rest) (slice_get w.trees.nodes n) values h)
      (λ e known. known)

  waited_kept : (state : State) (f : Frame) (rest : List Frame) (n : ℕ) (operands : List ℕ) (values : List (ℕ × Value)) (word : ℕ) → IsAfter (length w.trees.types.terms) first state.memory
      → KS (waited w state f rest n operands values word)
  waited_kept state f rest n operands values word h =
      either (calls w.trees n operands) _ _ (λ (s : State). IsAfter (length w.trees.types.terms) first s.memory) (call_kept state f rest n values h)
      (either (takes w.trees n operands) _ _ (λ (s : State). IsAfter (length w.trees.types.terms) first s.memory) (next_kept state f rest n values h)
      (placed_kept state rest (wait_row w.trees state.memory f n operands values word) (wait_kept w.trees first g.range state.memory h f n operands values word)))

  item_kept : (state : State) (f : Frame) (rest : List Frame) (items : List Item) (word : ℕ) → IsAfter (length w.trees.types.terms) first state.memory
      → KO (item_step w state f rest items word)
  item_kept state f rest [] word h = leaves_known state f rest no_value h
  item_kept state f rest (Do n ∷ items) word h =
      outcome_kept n (placed state rest (do_row w.trees state.memory f n word))
      (placed_kept state rest (do_row w.trees state.memory f n word) (do_kept w.trees first g.range state.memory h f n word))
  item_kept state f rest (Wait n operands values ∷ items) word h =
      outcome_kept n (waited w state f rest n operands values word) (waited_kept state f rest n operands values word h)
  item_kept state f rest (Library n k values ∷ items) word h =
      outcome_kept n (library_row w state f rest n k values word) (library_kept state f rest n k values word h)
  item_kept state f rest (Returned value ∷ items) word h = leaves_known state f rest value h

  outside_kept : (state : State) (status : Option ℤ) (word : ℕ) → IsAfter (length w.trees.types.terms) first state.memory → KO (outside_step w state status word)
  outside_kept state None word h = outcome_kept 0 (starts w state word) (starts_kept state word h)
  outside_kept state (Some status) word h = end_kept state status (last_of state.kept) h

  frames_kept : (state : State) (frames : List Frame) (word : ℕ) → IsAfter (length w.trees.types.terms) first state.memory → KO (frames_step w state frames word)
  frames_kept state [] word h = outside_kept state state.status word h
  frames_kept state (f ∷ rest) word h = item_kept state f rest f.items word h

  step_kept : (state : State) (word : ℕ) → IsAfter (length w.trees.types.terms) first state.memory → KO (step w state word)
  unfolding step
  step_kept state word h = frames_kept state state.frames word h

-- what a step answers leaves the types known, and the keys
after_step : {E : Type 0} (w : Running) (first : List Instance) (g : IsGrounded w) (result : Result StepAnswer E) (old new : State) (given : Outcome)
    → Steps result old new given → KO w first g given → IsAfter (length w.trees.types.terms) first old.memory → IsAfter (length w.trees.types.terms) first new.memory
after_step w first g (Ok Went) old new given e k h = subst (KO w first g) e k
after_step w first g (Ok (Finished status)) old new given e k h = subst (λ (s : State). IsAfter (length w.trees.types.terms) first s.memory) (sym e.1) h
after_step w first g (Ok (Stopped reason n)) old new given e k h = subst (λ (s : State). IsAfter (length w.trees.types.terms) first s.memory) (sym e.1) h
after_step w first g (Err x) old new given e k h = subst (λ (s : State). IsAfter (length w.trees.types.terms) first s.memory) (sym e) h

-- a memory after a step is later than the one before it
pub later : {E : Type 0} (w : Running) (g : IsGrounded w) (result : Result StepAnswer E) (old new : State) (word : ℕ)
    → Steps result old new (step w old word) → AreKnown (length w.trees.types.terms) old.memory → IsAfter (length w.trees.types.terms) old.memory new.memory
later w g result old new word e known =
    let same = after_itself (length w.trees.types.terms) old.memory known in
    after_step w old.memory g result old new (step w old word) e (step_kept w old.memory g old word same) same
