-- Steps that leave a frame, and those without one: a function that was kept is called at the end, or the program begins.
use Rattle.std.proofs.Common.{◌≡◌, ◌⊎◌, inr, ℕ, ◌+◌, ◌/◌, ◌%◌, Bool, true, false, cond, List, [], ◌∷◌, ◌++◌, length, slice_get, Option, Some, None, Result, Ok, Err, refl, sym, ap, subst}
use Rattle.std.proofs.lemmas.Bool.{false≢true}
use Rattle.c_types.specs.declared.key.ObjectKey.{ObjectKey}
use Rattle.c_types.specs.declared.key.ObjectKey.TheVariants.{Entity as EntityKey, Text as TextKey, Call as CallKey, Library as LibraryKey, Star as StarKey, Function as FunctionKey, Varargs as VarargsKey, Outside as OutsideKey}
use Rattle.c_types.specs.declared.term.TypeId.{TypeId}
use Rattle.core_tree.specs.Typed.{CoreTrees}
use Rattle.obj_space.specs.View.{view_of}
use Rattle.row_numbers.specs.Functions.{parameters_of}
use Rattle.call_sites.specs.Signatures.{at_end}
use Rattle.ref_cells.specs.declared.cells.Reason.{Reason}
use Rattle.ref_cells.specs.declared.cells.Reason.TheVariants.{BadCall}
use Rattle.ref_cells.specs.declared.cells.Value.{Value}
use Rattle.ref_elements.specs.Objects.{object_from}
use Rattle.ref_elements.specs.Types.{same_type}
use Rattle.ref_state.specs.declared.items.Item.{Item}
use Rattle.ref_state.specs.declared.items.Item.TheVariants.{Result as Returned}
use Rattle.ref_state.specs.declared.frames.Frame.{Frame}
use Rattle.ref_state.specs.declared.state.State.{State}
use Rattle.ref_state.specs.Values.{no_value}
use Rattle.ref_frames.specs.declared.entering.Activation.{Activation}
use Rattle.ref_frames.specs.Running.{Running}
use Rattle.ref_frames.specs.Frames.{entered, left_with, left_frame}
use Rattle.ref_frames.specs.OnTop.{only, on_top}
use Rattle.ref_calls.specs.Calls.{signature_of}
use Rattle.ref_calls.specs.Ending.{entry_of, but_last, last_of, pending_frame, kept_entered, kept_called}
use Rattle.ref_start.specs.Begin.{main_of, main_entry, main_made, begun, begins_at, begins_with, begins, begin}
use Rattle.ref_start.specs.Entries.{given_to, with_given, enters_or_ends, starts_by, starts}
use Rattle.covering_laws.specs.covered_state.World.{World, trees_of}
use Rattle.covered_runs.proofs.covered_steps.covered_values.Operands.{went, ok_one, err_ok}
use Rattle.covered_runs.specs.covered_steps.covered_effects.Served.{IsServed}
use Rattle.covered_runs.specs.covered_steps.covered_effects.Steps.{StaysCovered}
use Rattle.covered_runs.proofs.covered_steps.covered_effects.Ending.{kept_pended, steps_kept}
use Rattle.covered_runs.specs.covered_steps.covered_statements.Stacked.{FramesStand}
use Rattle.covered_runs.specs.covered_steps.covered_statements.Runnable.{IsRunnable}
use Rattle.covered_runs.specs.covered_steps.covered_statements.Rows.{running_in}
use Rattle.covered_runs.proofs.covered_steps.covered_statements.Leaving.{leaves_steady}
use Rattle.covered_runs.specs.machine_sound.Carried.{Carried, BeginsSteady}
use Rattle.covered_runs.proofs.machine_sound.Frames.{carries, stays, entered_stands}

-- what is kept stays, whoever gets the value of a frame that is left
left_kept : (u : CoreTrees) (entries : List ℕ) (state : State) (f : Frame) (rest : List Frame) (value : Value) (call by : Option ℕ) → (left_with u entries state f rest value call by).kept ≡ state.kept
left_kept u entries state f rest value (Some n) by = refl
left_kept u entries state f rest value None (Some k) = refl
left_kept u [] state f rest value None None = refl
left_kept u (e ∷ entries) state f rest value None None = refl

-- it stays where the program begins at main
begun_kept : (w : Running) (state next : State) (word : ℕ) → begin w state word ≡ Ok next → next.kept ≡ state.kept
unfolding begin
begun_kept w state next word e = by_main (main_of w.trees) e
  where
    by_list : (main : ℕ) (o : Option ℕ) → begins_at w state main word o ≡ Ok next → next.kept ≡ state.kept
    by_list main None h = absurd (err_ok h)
    by_list main (Some argv) h =
        let r = went (main_made w (length state.memory) argv main word) (λ made. Ok (begun state argv made)) next h in
        ap (λ (s : State). s.kept) (sym (ok_one r.2))

    by_parameters : (main : ℕ) (keys : List ObjectKey) → begins_with w state main word keys ≡ Ok next → next.kept ≡ state.kept
    by_parameters main [] h =
        let r = went (entered w (length state.memory) (main_entry main) []) (λ made. Ok (on_top state state.frames (only []) made)) next h in
        ap (λ (s : State). s.kept) (sym (ok_one r.2))
    by_parameters main (key ∷ rest) h = by_list main (object_from 9 0 state.memory) h

    by_main : (o : Option ℕ) → begins w state word o ≡ Ok next → next.kept ≡ state.kept
    by_main None h = absurd (err_ok h)
    by_main (Some main) h = by_parameters main (parameters_of w.trees (view_of w.space) main) h

-- and where one of its entries is entered, or it ends
started_kept : (w : Running) (state next : State) (word : ℕ) → starts w state word ≡ Ok next → next.kept ≡ state.kept
unfolding starts
started_kept w state next word e = by_entries w.entries e
  where
    by_choice : (h : ℕ) (o : Option ℕ) → enters_or_ends w state h o ≡ Ok next → next.kept ≡ state.kept
    by_choice h None k = ap (λ (s : State). s.kept) (sym (ok_one k))
    by_choice h (Some entry) k =
        let r =
        went (entered w (length state.memory + length (given_to w state entry h).fresh) (main_entry entry) (given_to w state entry h).arguments)
        (λ made. Ok (on_top (with_given state (given_to w state entry h)) state.frames (only made.stores) made)) next k in
        ap (λ (s : State). s.kept) (sym (ok_one r.2))

    by_entries : (entries : List ℕ) → starts_by w state word entries ≡ Ok next → next.kept ≡ state.kept
    by_entries [] k = begun_kept w state next word k
    by_entries (first ∷ rest) k = by_choice (word / (length (first ∷ rest) + 1)) (slice_get (first ∷ rest) (word % (length (first ∷ rest) + 1))) k

module _ (world : World) (characters : TypeId) (runs : IsRunnable world) (state next : State) (carried : Carried world state) where
  -- a frame is left
  pub leaves : (f : Frame) (rest : List Frame) (value : Value) → state.frames ≡ f ∷ rest → ((f.items ≡ []) × (value ≡ no_value)) ⊎ ((items : List Item) × (f.items ≡ Returned value ∷ items))
      → Carried world (record (left_frame (trees_of world) world.program.entries.items state f rest value) { notes = only [] })
  leaves f rest value frames_are done =
      carries world state (record (left_frame (trees_of world) world.program.entries.items state f rest value) { notes = only [] }) carried (left_kept (trees_of world) world.program.entries.items state f rest value f.call f.by)
      (leaves_steady world state f rest value runs carried.steady frames_are done)

  -- the program begins, or is entered from outside
  pub begins_so : BeginsSteady world characters → (word : ℕ) → state.frames ≡ [] → starts (running_in world characters) state word ≡ Ok next → Carried world next
  begins_so begins word frames_are e = carries world state next carried (started_kept (running_in world characters) state next word e) (begins state next word carried.steady frames_are e)

  module _ (served : IsServed world runs.stands characters) (frames_are : state.frames ≡ []) (key : ObjectKey) (n : ℕ) (last : last_of state.kept ≡ Some (key, n)) (is_called : kept_called (running_in world characters) state key n ≡ Ok next) where
    after : StaysCovered world next
    after = steps_kept world runs.stands characters served state key n next (stays world state carried) frames_are last is_called

    abbrev fewer : State
    fewer = record state { kept = but_last state.kept }

    -- one with a body is entered
    enters : (e : ℕ) (made : Activation) → entered (running_in world characters) (length state.memory) (entry_of e (Some 24)) [] ≡ Ok made → on_top fewer state.frames (only []) made ≡ next
        → FramesStand world (state.memory ++ made.fresh) (made.frame ∷ state.frames)
    enters e made is_entered is =
        let here : StaysCovered world (on_top fewer state.frames (only []) made) = subst (StaysCovered world) (sym is) after in
        entered_stands world runs characters state.memory e 24 [] made state.frames is_entered here.covered.frames.0 carried.steady.stacked

    -- one of the library is pending
    pends : (k : ℕ) → key ≡ FunctionKey k → FramesStand world state.memory (pending_frame k n ∷ state.frames)
    pends k is =
        ((inr (refl, kept_pended world runs.stands characters served state key n next (stays world state carried) frames_are last is_called k is), (λ waits. absurd (false≢true waits)), tt), tt, carried.steady.stacked)

    by_key : (own : ObjectKey) → key ≡ own → kept_entered (running_in world characters) fewer own n ≡ Ok next → FramesStand world next.memory next.frames
    by_key (EntityKey e) is h =
        let r = went (entered (running_in world characters) (length state.memory) (entry_of e (Some 24)) []) (λ made. Ok (on_top fewer state.frames (only []) made)) next h in
        subst (λ (s : State). FramesStand world s.memory s.frames) (ok_one r.2) (enters e r.0 r.1 (ok_one r.2))
    by_key (FunctionKey k) is h = subst (λ (s : State). FramesStand world s.memory s.frames) (ok_one h) (pends k is)
    by_key (TextKey m) is h = absurd (err_ok h)
    by_key (CallKey m) is h = absurd (err_ok h)
    by_key (LibraryKey m) is h = absurd (err_ok h)
    by_key (StarKey m) is h = absurd (err_ok h)
    by_key (VarargsKey m) is h = absurd (err_ok h)
    by_key OutsideKey is h = absurd (err_ok h)

    by_type : (b : Bool) → (let r : Result State Reason = cond b (kept_entered (running_in world characters) fewer key n) (Err BadCall) in r) ≡ Ok next → FramesStand world next.memory next.frames
    by_type true h = by_key key refl h
    by_type false h = absurd (err_ok h)

    -- a function that was kept is called
    pub calls_kept : Carried world next
    calls_kept = record { steady = record { covered = after.covered; stacked = by_type (same_type (signature_of (trees_of world) key) at_end) is_called }; found = after.found }
