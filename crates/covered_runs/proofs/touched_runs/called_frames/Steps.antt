-- Each step that goes on leaves the frames layered.
use Rattle.std.proofs.Common.{◌≡◌, ℕ, ◌+◌, ◌/◌, ◌%◌, ℤ, pos, Bool, true, false, cond, List, [], ◌∷◌, drop, length, Option, Some, None, Result, Ok, Err, slice_get, refl, sym, ap, subst}
use Rattle.std.proofs.lemmas.Bool.{false≢true}
use Rattle.c_types.specs.declared.key.ObjectKey.{ObjectKey}
use Rattle.c_types.specs.declared.key.ObjectKey.TheVariants.{Entity as EntityKey, Text as TextKey, Call as CallKey, Library as LibraryKey, Star as StarKey, Function as FunctionKey, Varargs as VarargsKey, Outside as OutsideKey}
use Rattle.c_types.specs.declared.term.TypeId.{TypeId}
use Rattle.core_tree.specs.declared.node.Node.{Node}
use Rattle.core_tree.specs.declared.node.NodeKind.{NodeKind}
use Rattle.core_tree.specs.declared.node.NodeKind.TheVariants.{CallNode}
use Rattle.core_tree.specs.Typed.{ValueNode, sort_of}
use Rattle.obj_space.specs.View.{view_of}
use Rattle.row_numbers.specs.Functions.{parameters_of}
use Rattle.call_sites.specs.Signatures.{at_end}
use Rattle.call_sites.specs.Calls.{is_call}
use Rattle.ref_cells.specs.declared.cells.Reason.{Reason}
use Rattle.ref_cells.specs.declared.cells.Reason.TheVariants.{BadCall}
use Rattle.ref_cells.specs.declared.cells.Cell.TheVariants.{Number}
use Rattle.ref_cells.specs.declared.cells.Value.{Value}
use Rattle.ref_cells.specs.Cells.{CellList}
use Rattle.ref_elements.specs.declared.outcome.Next.{Next}
use Rattle.ref_elements.specs.declared.outcome.Next.TheVariants.{Done, Again, Calls, Keeps, Ends as EndsNow}
use Rattle.ref_elements.specs.Types.{same_type}
use Rattle.ref_elements.specs.Objects.{object_from}
use Rattle.ref_elements.specs.Outcomes.{Effected, start_of}
use Rattle.ref_mem.specs.Reads.{one_cell}
use Rattle.ref_state.specs.declared.items.Item.{Item}
use Rattle.ref_state.specs.declared.items.Item.TheVariants.{Do, Wait, Library, Result as Returned}
use Rattle.ref_state.specs.declared.frames.Frame.{Frame}
use Rattle.ref_state.specs.declared.state.State.{State}
use Rattle.ref_state.specs.Items.{replaced, settled}
use Rattle.ref_state.specs.Values.{no_value}
use Rattle.ref_blocks.specs.Ways.{kind_in}
use Rattle.ref_statements.specs.Rows.{Row}
use Rattle.ref_statements.specs.Nodes.{do_row, wait_row}
use Rattle.ref_frames.specs.declared.entering.Entry.{Entry}
use Rattle.ref_frames.specs.declared.entering.Activation.{Activation}
use Rattle.ref_frames.specs.Running.{Running}
use Rattle.ref_frames.specs.Frames.{entered, given_by, caller_given, left_start, left_with}
use Rattle.ref_frames.specs.OnTop.{only, on_top}
use Rattle.ref_calls.specs.declared.reached.Target.{Target}
use Rattle.ref_calls.specs.Calls.{signature_of}
use Rattle.ref_calls.specs.Reached.{reached}
use Rattle.ref_calls.specs.Lists.{taken_at, next_row}
use Rattle.ref_calls.specs.Library.{performed, comparison_of, back_by, goes_by, library_row}
use Rattle.ref_calls.specs.Outcomes.{Goes, Ends, Stops, outcome}
use Rattle.ref_calls.specs.Ending.{entry_of, but_last, last_of, kept_entered, kept_called, end_step}
use Rattle.ref_start.specs.Begin.{main_of, main_entry, with_texts, main_made, begun, begins_at, begins_with, begins, begin}
use Rattle.ref_start.specs.Entries.{given_to, with_given, enters_or_ends, starts_by, starts}
use Rattle.ref_machine.specs.Step.{placed, noted, called, call_row, is_call_at, calls, takes, waited, item_step, outside_step, frames_step, step}
use Rattle.covering_laws.specs.covered_state.World.{World, trees_of}
use Rattle.covering_laws.specs.covered_state.Items.{Each, IsOwned, ItemIn}
use Rattle.covered_runs.proofs.covered_steps.covered_values.Operands.{went, ok_one, err_ok}
use Rattle.covered_runs.proofs.covered_steps.Steps.{own_items}
use Rattle.covered_runs.specs.covered_steps.covered_statements.Stacked.{waits_next, PendingOn, Stacked, FramesStand}
use Rattle.covered_runs.specs.covered_steps.covered_statements.Rows.{running_in}
use Rattle.covered_runs.proofs.covered_steps.covered_statements.Calling.{entered_inv}
use Rattle.covered_runs.proofs.covered_steps.covered_statements.Stacking.{parent_waits}
use Rattle.covered_runs.specs.machine_sound.Carried.{Carried}
use Rattle.covered_runs.specs.touched_runs.called_frames.Layers.{IsEntity, StandsOnCall, AreLayered, IsCalling, IsPendingOn, StandsOver, FramesLayered}
use Rattle.covered_runs.specs.touched_runs.called_frames.Laws.{StepLayered}
use Rattle.covered_runs.proofs.touched_runs.called_frames.Items.{layered_drop, layered_settled}
use Rattle.covered_runs.proofs.touched_runs.called_frames.Rows.{RowKeeps, do_keeps, wait_keeps}
use Rattle.covered_runs.proofs.touched_runs.called_frames.Backs.{AreLed, performed_led}

goes_one : {a b : State} → Goes a ≡ Goes b → a ≡ b
goes_one h = cc

stops_goes : {reason : Reason} → {n : ℕ} → {s : State} → Stops reason n ≡ Goes s → ⊥
stops_goes h = cc

ends_goes : {status : ℤ} → {s : State} → Ends status ≡ Goes s → ⊥
ends_goes h = cc

goes_ok : (n : ℕ) (r : Result State Reason) (next : State) → outcome n r ≡ Goes next → ◌≡◌ {A = Result State Reason} r (Ok next)
goes_ok n (Ok s) next e = ap (λ (x : State). let r : Result State Reason = Ok x in r) (goes_one e)
goes_ok n (Err reason) next e = absurd (stops_goes e)

-- what an effect leaves whose value goes to the item below
abbrev settled_so : State → Frame → List Frame → ℕ → Effected → Result State Reason
settled_so state f rest n x = Ok (record state { memory = x.memory; frames = record f { items = settled n x.outcome.value f.items } ∷ rest; notes = only x.outcome.stores })

-- a call gives a value, so it stands on a node that waits for it
call_sort : (o : Option Node) → is_call_at o ≡ true → sort_of (kind_in o) ≡ ValueNode
call_sort None h = absurd (false≢true h)
call_sort (Some node) h = by node.kind h
  where
    by : (kind : NodeKind) → is_call kind ≡ true → sort_of kind ≡ ValueNode
    by CallNode e = refl
    by kind e = absurd (false≢true e)

on_wait : (f : ObjectKey) (n k : ℕ) (arguments : List Value) (items : List Item) → waits_next items ≡ true → StandsOnCall f n k arguments items
on_wait f n k arguments (Wait m left values ∷ rest) h = tt
on_wait f n k arguments [] h = absurd (false≢true h)
on_wait f n k arguments (Do m ∷ rest) h = absurd (false≢true h)
on_wait f n k arguments (Library m j others ∷ rest) h = absurd (false≢true h)
on_wait f n k arguments (Returned v ∷ rest) h = absurd (false≢true h)

-- what owns a node is a function of the program
owner_entity : (world : World) (f : ObjectKey) (n : ℕ) → IsOwned world f n → IsEntity f
owner_entity world (EntityKey e) n h = (e, refl)
owner_entity world f n h = absurd h

-- a function that is entered has its body alone to do
entered_layered : (world : World) (characters : TypeId) (count : ℕ) (entry : Entry) (arguments : List Value) (made : Activation) (frames : List Frame) → entered (running_in world characters) count entry arguments ≡ Ok made
    → StandsOver entry.call entry.by frames → FramesLayered frames → FramesLayered (made.frame ∷ frames)
entered_layered world characters count entry arguments made frames is over h =
    let inv = entered_inv world characters count entry arguments made is in
    subst (λ (a : Activation). FramesLayered (a.frame ∷ frames)) inv.made_is (tt, over, h)

module _ (world : World) (characters : TypeId) (state next : State) (word : ℕ) (carried : Carried world state) (layered : FramesLayered state.frames) where
  abbrev w : Running
  w = running_in world characters

  -- ---- the top frame

  module _ (f : Frame) (rest : List Frame) (frames_are : state.frames ≡ f ∷ rest) where
    own : FramesLayered (f ∷ rest)
    own = subst FramesLayered frames_are layered

    row_layered : (row : Row) → RowKeeps f row → placed state rest row ≡ Ok next → FramesLayered next.frames
    row_layered (Ok x) keeps e =
        let k = keeps x refl in
        subst (λ (s : State). FramesLayered s.frames) (ok_one e) (
          subst (λ (g : ObjectKey). AreLayered g x.frame.items) (sym k.function) k.items,
          subst (λ (c : Option ℕ). StandsOver c x.frame.by rest) (sym k.call) (subst (λ (b : Option ℕ). StandsOver f.call b rest) (sym k.by) own.1),
          own.2,
        )
    row_layered (Err reason) keeps e = absurd (err_ok e)

    -- a frame is left
    given_layered : (n : ℕ) (v : Value) (frames : List Frame) → FramesLayered frames → FramesLayered (caller_given n v frames)
    given_layered n v [] h = tt
    given_layered n v (g ∷ more) h = (layered_settled g.function n v g.items h.0, h.1, h.2)

    left_layered : (value : Value) (call by : Option ℕ) → FramesLayered (left_with (trees_of world) world.program.entries.items state f rest value call by).frames
    left_layered value (Some n) by = given_layered n (given_by (trees_of world) f.function value) rest own.2
    left_layered value None (Some k) = own.2
    left_layered value None None = by_entries world.program.entries.items
      where
        by_entries : (entries : List ℕ) → FramesLayered (left_start (trees_of world) entries state f rest value).frames
        by_entries [] = tt
        by_entries (e ∷ entries) = own.2

    -- a call reaches a function
    module _ (n : ℕ) (left : List ℕ) (values : List (ℕ × Value)) (items : List Item) (items_are : f.items ≡ Wait n left values ∷ items) where
      calling_on : is_call_at (slice_get (trees_of world).nodes n) ≡ true → waits_next items ≡ true
      calling_on is =
          let stand = subst (FramesStand world state.memory) frames_are carried.steady.stacked in
          let here = subst (Stacked (trees_of world).nodes (PendingOn world state.memory)) items_are stand.0 in
          parent_waits (trees_of world).nodes n items (here.1.parent (call_sort (slice_get (trees_of world).nodes n) is))

      pends : (k : ℕ) (arguments : List Value) → is_call_at (slice_get (trees_of world).nodes n) ≡ true → AreLayered f.function (replaced 1 (Library n k arguments ∷ []) f.items)
      pends k arguments is = (
        subst (λ (xs : List Item). StandsOnCall f.function n k arguments (drop 1 xs)) (sym items_are) (on_wait f.function n k arguments items (calling_on is)),
        layered_drop f.function 1 f.items own.0,
      )

      reaches : (target : Target) → is_call_at (slice_get (trees_of world).nodes n) ≡ true → (key : ObjectKey) → called w state f rest n key target.arguments ≡ Ok next → FramesLayered next.frames
      reaches target is (EntityKey g) e =
          let r = went (entered w (length state.memory) (record { function = g; call = Some n; by = None }) target.arguments) (λ made. Ok (on_top state (f ∷ rest) (noted (trees_of world) n (EntityKey g) made.stores) made)) next e in
          subst (λ (s : State). FramesLayered s.frames) (ok_one r.2)
          (entered_layered world characters (length state.memory) (record { function = g; call = Some n; by = None }) target.arguments r.0 (f ∷ rest) r.1 (subst (λ (xs : List Item). IsCalling n xs) (sym items_are) refl) own)
      reaches target is (FunctionKey k) e = subst (λ (s : State). FramesLayered s.frames) (ok_one e) (pends k target.arguments is, own.1, own.2)
      reaches target is (TextKey m) e = absurd (err_ok e)
      reaches target is (CallKey m) e = absurd (err_ok e)
      reaches target is (LibraryKey m) e = absurd (err_ok e)
      reaches target is (StarKey m) e = absurd (err_ok e)
      reaches target is (VarargsKey m) e = absurd (err_ok e)
      reaches target is OutsideKey e = absurd (err_ok e)

      calling : is_call_at (slice_get (trees_of world).nodes n) ≡ true → call_row w state f rest n values ≡ Ok next → FramesLayered next.frames
      calling is e =
          let r = went (reached (trees_of world) n values) (λ (target : Target). called w state f rest n target.key target.arguments) next e in
          reaches r.0 is r.0.key r.2

      -- the next one of a list is taken
      nexts : next_row w state f rest n values ≡ Ok next → FramesLayered next.frames
      unfolding next_row
      nexts e =
          let r = went (taken_at w state.memory (f ∷ rest) (slice_get (trees_of world).nodes n) values) (settled_so state f rest n) next e in
          subst (λ (s : State). FramesLayered s.frames) (ok_one r.2) (layered_settled f.function n r.0.outcome.value f.items own.0, own.1, own.2)

      called_here : calls (trees_of world) n left ≡ true → is_call_at (slice_get (trees_of world).nodes n) ≡ true
      called_here e = by left e
        where
          by : (xs : List ℕ) → calls (trees_of world) n xs ≡ true → is_call_at (slice_get (trees_of world).nodes n) ≡ true
          by [] h = h
          by (c ∷ more) h = absurd (false≢true h)

      waits : waited w state f rest n left values word ≡ Ok next → FramesLayered next.frames
      waits e = by (calls (trees_of world) n left) refl e
        where
          takes_by : (b : Bool) → (let r : Result State Reason = cond b (next_row w state f rest n values) (placed state rest (wait_row (trees_of world) state.memory f n left values word)) in r) ≡ Ok next → FramesLayered next.frames
          takes_by true h = nexts h
          takes_by false h = row_layered (wait_row (trees_of world) state.memory f n left values word) (wait_keeps (trees_of world) state.memory f own.0 n left values word) h

          by : (b : Bool) → calls (trees_of world) n left ≡ b
              → (let r : Result State Reason = cond b (call_row w state f rest n values) (cond (takes (trees_of world) n left) (next_row w state f rest n values) (placed state rest (wait_row (trees_of world) state.memory f n left values word))) in r) ≡ Ok next
              → FramesLayered next.frames
          by true is h = calling (called_here is) h
          by false is h = takes_by (takes (trees_of world) n left) h

    -- a library function that is pending
    module _ (n k : ℕ) (arguments : List Value) (items : List Item) (items_are : f.items ≡ Library n k arguments ∷ items) where
      here : AreLayered f.function (Library n k arguments ∷ items)
      here = subst (AreLayered f.function) items_are own.0

      -- one that was given something is pending in a frame of the program's
      of_entity : (arguments ≡ [] → ⊥) → IsEntity f.function
      of_entity some = by items here.0 (own_items world state f rest carried.steady.covered frames_are (Library n k arguments) items items_are).1
        where
          by : (xs : List Item) → StandsOnCall f.function n k arguments xs → Each (ItemIn world state.memory f.function) xs → IsEntity f.function
          by [] h each = absurd (some h.1)
          by (Wait m left values ∷ more) h each = owner_entity world f.function m each.0.0
          by (Library m j others ∷ more) h each = h.2
          by (Do m ∷ more) h each = absurd h
          by (Returned v ∷ more) h each = absurd h

      called_back : (x : Effected) (given : List Value) → AreLed k arguments given → (key : ObjectKey) → back_by w (record state { memory = x.memory }) f rest n k given key ≡ Ok next → FramesLayered next.frames
      called_back x given led (EntityKey other) e =
          let r =
          went (entered w (length x.memory) (record { function = other; call = None; by = Some k }) given) (λ made. Ok (on_top (record state { memory = x.memory }) (f ∷ rest) (only made.stores) made)) next e in
          subst (λ (s : State). FramesLayered s.frames) (ok_one r.2)
          (entered_layered world characters (length x.memory) (record { function = other; call = None; by = Some k }) given r.0 (f ∷ rest) r.1
          (subst (λ (xs : List Item). IsPendingOn k xs) (sym items_are) refl, of_entity led.some) own)
      called_back x given led (FunctionKey other) e =
          subst (λ (s : State). FramesLayered s.frames) (ok_one e) (
            (subst (λ (xs : List Item). StandsOnCall f.function n other given xs) (sym items_are) (refl, led.each, of_entity led.some), own.0),
            own.1,
            own.2,
          )
      called_back x given led (TextKey m) e = absurd (err_ok e)
      called_back x given led (CallKey m) e = absurd (err_ok e)
      called_back x given led (LibraryKey m) e = absurd (err_ok e)
      called_back x given led (StarKey m) e = absurd (err_ok e)
      called_back x given led (VarargsKey m) e = absurd (err_ok e)
      called_back x given led OutsideKey e = absurd (err_ok e)

      goes_on : (x : Effected) → performed w state.memory n k arguments word ≡ Ok x → (o : Next) → x.outcome.next ≡ o
          → goes_by w (record state { memory = x.memory }) f rest n k x.outcome.value x.outcome.stores o ≡ Ok next → FramesLayered next.frames
      goes_on x is Done at e = subst (λ (s : State). FramesLayered s.frames) (ok_one e) (layered_settled f.function n x.outcome.value f.items own.0, own.1, own.2)
      goes_on x is Again at e = subst (λ (s : State). FramesLayered s.frames) (ok_one e) own
      goes_on x is (Keeps cell) at e = subst (λ (s : State). FramesLayered s.frames) (ok_one e) (layered_settled f.function n x.outcome.value f.items own.0, own.1, own.2)
      goes_on x is (EndsNow status at_once) at e = subst (λ (s : State). FramesLayered s.frames) (ok_one e) tt
      goes_on x is (Calls callee given) at e =
          let r = went (comparison_of (trees_of world) callee) (λ (key : ObjectKey). back_by w (record state { memory = x.memory }) f rest n k given key) next e in
          called_back x given (performed_led w state.memory n k arguments word x callee given is at) r.0 r.2

      library : library_row w state f rest n k arguments word ≡ Ok next → FramesLayered next.frames
      unfolding library_row
      library e =
          let r =
          went (performed w state.memory n k arguments word) (λ x. goes_by w (record state { memory = x.memory }) f rest n k x.outcome.value x.outcome.stores x.outcome.next) next e in
          goes_on r.0 r.1 r.0.outcome.next refl r.2

    item_layered : (items : List Item) → f.items ≡ items → item_step w state f rest items word ≡ Goes next → FramesLayered next.frames
    item_layered [] items_are e = subst (λ (s : State). FramesLayered s.frames) (goes_one e) (left_layered no_value f.call f.by)
    item_layered (Do n ∷ items) items_are e =
        row_layered (do_row (trees_of world) state.memory f n word) (do_keeps (trees_of world) state.memory f own.0 n word) (goes_ok n (placed state rest (do_row (trees_of world) state.memory f n word)) next e)
    item_layered (Wait n left values ∷ items) items_are e = waits n left values items items_are (goes_ok n (waited w state f rest n left values word) next e)
    item_layered (Library n k arguments ∷ items) items_are e = library n k arguments items items_are (goes_ok n (library_row w state f rest n k arguments word) next e)
    item_layered (Returned value ∷ items) items_are e = subst (λ (s : State). FramesLayered s.frames) (goes_one e) (left_layered value f.call f.by)

  -- ---- without a frame

  module _ (frames_are : state.frames ≡ []) where
    -- a frame on top of none
    alone : (count : ℕ) (entry : Entry) (arguments : List Value) (made : Activation) → entered w count entry arguments ≡ Ok made → FramesLayered (made.frame ∷ state.frames)
    alone count entry arguments made is =
        subst (λ (frames : List Frame). FramesLayered (made.frame ∷ frames)) (sym frames_are) (entered_layered world characters count entry arguments made [] is tt tt)

    -- a function that was kept is called
    kept_layered : (key own : ObjectKey) (n : ℕ) → kept_entered w (record state { kept = but_last state.kept }) own n ≡ Ok next → FramesLayered next.frames
    kept_layered key (EntityKey e) n h =
        let r = went (entered w (length state.memory) (entry_of e (Some 24)) []) (λ made. Ok (on_top (record state { kept = but_last state.kept }) state.frames (only []) made)) next h in
        subst (λ (s : State). FramesLayered s.frames) (ok_one r.2) (alone (length state.memory) (entry_of e (Some 24)) [] r.0 r.1)
    kept_layered key (FunctionKey k) n h =
        subst (λ (s : State). FramesLayered s.frames) (ok_one h)
        (((refl, refl), tt), subst (λ (frames : List Frame). StandsOver None (Some 24) frames) (sym frames_are) tt, layered)
    kept_layered key (TextKey m) n h = absurd (err_ok h)
    kept_layered key (CallKey m) n h = absurd (err_ok h)
    kept_layered key (LibraryKey m) n h = absurd (err_ok h)
    kept_layered key (StarKey m) n h = absurd (err_ok h)
    kept_layered key (VarargsKey m) n h = absurd (err_ok h)
    kept_layered key OutsideKey n h = absurd (err_ok h)

    calls_kept : (key : ObjectKey) (n : ℕ) → kept_called w state key n ≡ Ok next → FramesLayered next.frames
    calls_kept key n h = by (same_type (signature_of (trees_of world) key) at_end) h
      where
        by : (b : Bool) → (let r : Result State Reason = cond b (kept_entered w (record state { kept = but_last state.kept }) key n) (Err BadCall) in r) ≡ Ok next → FramesLayered next.frames
        by true g = kept_layered key key n g
        by false g = absurd (err_ok g)

    end_layered : (status : ℤ) (o : Option (ObjectKey × ℕ)) → end_step w state status o ≡ Goes next → FramesLayered next.frames
    end_layered status None e = absurd (ends_goes e)
    end_layered status (Some kept) e = calls_kept kept.0 kept.1 (goes_ok kept.1 (kept_called w state kept.0 kept.1) next e)

    -- the program begins at main
    begun_layered : begin w state word ≡ Ok next → FramesLayered next.frames
    unfolding begin
    begun_layered e = by_main (main_of (trees_of world)) e
      where
        with_arguments : (argv main : ℕ) (made : CellList × Activation) → main_made w (length state.memory) argv main word ≡ Ok made → FramesLayered (made.1.frame ∷ state.frames)
        with_arguments argv main made is =
            let q =
            went (entered w (length state.memory + (1 + word % 8)) (main_entry main) (one_cell (Number (pos (1 + word % 8))) ∷ one_cell (start_of argv) ∷ [])) (λ (a : Activation). let r : Result (CellList × Activation) Reason = Ok (with_texts w (length state.memory) (1 + word % 8) word a) in r) made is in
            subst (λ (m : CellList × Activation). FramesLayered (m.1.frame ∷ state.frames)) (ok_one q.2) (alone (length state.memory + (1 + word % 8)) (main_entry main) (one_cell (Number (pos (1 + word % 8))) ∷ one_cell (start_of argv) ∷ []) q.0 q.1)

        by_list : (main : ℕ) (o : Option ℕ) → begins_at w state main word o ≡ Ok next → FramesLayered next.frames
        by_list main None h = absurd (err_ok h)
        by_list main (Some argv) h =
            let r = went (main_made w (length state.memory) argv main word) (λ made. Ok (begun state argv made)) next h in
            subst (λ (s : State). FramesLayered s.frames) (ok_one r.2) (with_arguments argv main r.0 r.1)

        by_parameters : (main : ℕ) (keys : List ObjectKey) → begins_with w state main word keys ≡ Ok next → FramesLayered next.frames
        by_parameters main [] h =
            let r = went (entered w (length state.memory) (main_entry main) []) (λ made. Ok (on_top state state.frames (only []) made)) next h in
            subst (λ (s : State). FramesLayered s.frames) (ok_one r.2) (alone (length state.memory) (main_entry main) [] r.0 r.1)
        by_parameters main (key ∷ rest) h = by_list main (object_from 9 0 state.memory) h

        by_main : (o : Option ℕ) → begins w state word o ≡ Ok next → FramesLayered next.frames
        by_main None h = absurd (err_ok h)
        by_main (Some main) h = by_parameters main (parameters_of (trees_of world) (view_of world.space) main) h

    -- or is entered from outside
    started_layered : starts w state word ≡ Ok next → FramesLayered next.frames
    unfolding starts
    started_layered e = by_entries world.program.entries.items e
      where
        by_choice : (h : ℕ) (o : Option ℕ) → enters_or_ends w state h o ≡ Ok next → FramesLayered next.frames
        by_choice h None k = subst (λ (s : State). FramesLayered s.frames) (ok_one k) tt
        by_choice h (Some entry) k =
            let r =
            went (entered w (length state.memory + length (given_to w state entry h).fresh) (main_entry entry) (given_to w state entry h).arguments)
            (λ made. Ok (on_top (with_given state (given_to w state entry h)) state.frames (only made.stores) made)) next k in
            subst (λ (s : State). FramesLayered s.frames) (ok_one r.2)
            (alone (length state.memory + length (given_to w state entry h).fresh) (main_entry entry) (given_to w state entry h).arguments r.0 r.1)

        by_entries : (entries : List ℕ) → starts_by w state word entries ≡ Ok next → FramesLayered next.frames
        by_entries [] k = begun_layered k
        by_entries (first ∷ rest) k = by_choice (word / (length (first ∷ rest) + 1)) (slice_get (first ∷ rest) (word % (length (first ∷ rest) + 1))) k

    outside_layered : (status : Option ℤ) → outside_step w state status word ≡ Goes next → FramesLayered next.frames
    outside_layered None e = started_layered (goes_ok 0 (starts w state word) next e)
    outside_layered (Some status) e = end_layered status (last_of state.kept) e

  stepped : (frames : List Frame) → state.frames ≡ frames → frames_step w state frames word ≡ Goes next → FramesLayered next.frames
  stepped [] is e = outside_layered is state.status e
  stepped (f ∷ rest) is e = item_layered f rest is f.items refl e

pub step_layered : StepLayered
unfolding step
step_layered world characters h state next word carried layered e = stepped world characters state next word carried layered state.frames refl e
