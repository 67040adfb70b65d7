-- Each step that goes on keeps what is carried, item by item.
use Rattle.std.proofs.Common.{◌≡◌, inl, inr, ℕ, ℤ, List, [], ◌∷◌, Option, Some, None, Result, Ok, Err, refl, ap, subst}
use Rattle.c_types.specs.declared.key.ObjectKey.{ObjectKey}
use Rattle.c_types.specs.declared.term.TypeId.{TypeId}
use Rattle.ref_cells.specs.declared.cells.Reason.{Reason}
use Rattle.ref_state.specs.declared.items.Item.{Item}
use Rattle.ref_state.specs.declared.items.Item.TheVariants.{Do, Wait, Library, Result as Returned}
use Rattle.ref_state.specs.declared.frames.Frame.{Frame}
use Rattle.ref_state.specs.declared.state.State.{State}
use Rattle.ref_state.specs.Values.{no_value}
use Rattle.ref_statements.specs.Nodes.{do_row}
use Rattle.ref_calls.specs.Outcomes.{Goes, Ends, Stops, outcome}
use Rattle.ref_calls.specs.Library.{library_row}
use Rattle.ref_calls.specs.Ending.{last_of, kept_called, end_step}
use Rattle.ref_start.specs.Entries.{starts}
use Rattle.ref_machine.specs.Step.{placed, waited, item_step, outside_step, frames_step, step}
use Rattle.covering_laws.specs.covered_state.World.{World, trees_of}
use Rattle.covered_runs.specs.covered_steps.covered_statements.Rows.{running_in}
use Rattle.covered_runs.specs.machine_sound.Carried.{Carried, IsSteppable, StepSound}
use Rattle.covered_runs.proofs.machine_sound.Rows.{begun, waits}
use Rattle.covered_runs.proofs.machine_sound.Libraries.{library}
use Rattle.covered_runs.proofs.machine_sound.Ends.{leaves, begins_so, calls_kept}

goes_one : {a b : State} → Goes a ≡ Goes b → a ≡ b
goes_one h = cc

stops_goes : {reason : Reason} → {n : ℕ} → {s : State} → Stops reason n ≡ Goes s → ⊥
stops_goes h = cc

ends_goes : {status : ℤ} → {s : State} → Ends status ≡ Goes s → ⊥
ends_goes h = cc

goes_ok : (n : ℕ) (r : Result State Reason) (next : State) → outcome n r ≡ Goes next → ◌≡◌ {A = Result State Reason} r (Ok next)
goes_ok n (Ok s) next e = ap (λ (x : State). let r : Result State Reason = Ok x in r) (goes_one e)
goes_ok n (Err reason) next e = absurd (stops_goes e)

module _ (world : World) (characters : TypeId) (h : IsSteppable world characters) (state next : State) (word : ℕ) (carried : Carried world state) where
  -- the top item of the top frame
  item_sound : (f : Frame) (rest : List Frame) → state.frames ≡ f ∷ rest → (items : List Item) → f.items ≡ items → item_step (running_in world characters) state f rest items word ≡ Goes next → Carried world next
  item_sound f rest frames_are [] items_are e = subst (Carried world) (goes_one e) (leaves world characters h.runs state next carried f rest no_value frames_are (inl (items_are, refl)))
  item_sound f rest frames_are (Do n ∷ items) items_are e =
      begun world characters h.runs h.served state next word carried f rest frames_are n items items_are (goes_ok n (placed state rest (do_row (trees_of world) state.memory f n word)) next e)
  item_sound f rest frames_are (Wait n left values ∷ items) items_are e =
      waits world characters h.runs h.served state next word carried f rest frames_are n left values items items_are (goes_ok n (waited (running_in world characters) state f rest n left values word) next e)
  item_sound f rest frames_are (Library n k arguments ∷ items) items_are e =
      library world characters h.runs h.served state next word carried f rest frames_are n k arguments items items_are (goes_ok n (library_row (running_in world characters) state f rest n k arguments word) next e)
  item_sound f rest frames_are (Returned value ∷ items) items_are e = subst (Carried world) (goes_one e) (leaves world characters h.runs state next carried f rest value frames_are (inr (items, items_are)))

  -- without a frame, at the program's end
  end_sound : state.frames ≡ [] → (status : ℤ) (o : Option (ObjectKey × ℕ)) → last_of state.kept ≡ o → end_step (running_in world characters) state status o ≡ Goes next → Carried world next
  end_sound frames_are status None last e = absurd (ends_goes e)
  end_sound frames_are status (Some kept) last e =
      calls_kept world characters h.runs state next carried h.served frames_are kept.0 kept.1 last (goes_ok kept.1 (kept_called (running_in world characters) state kept.0 kept.1) next e)

  outside_sound : state.frames ≡ [] → (status : Option ℤ) → outside_step (running_in world characters) state status word ≡ Goes next → Carried world next
  outside_sound frames_are None e = begins_so world characters h.runs state next carried h.begins word frames_are (goes_ok 0 (starts (running_in world characters) state word) next e)
  outside_sound frames_are (Some status) e = end_sound frames_are status (last_of state.kept) refl e

  frames_sound : (frames : List Frame) → state.frames ≡ frames → frames_step (running_in world characters) state frames word ≡ Goes next → Carried world next
  frames_sound [] is e = outside_sound is state.status e
  frames_sound (f ∷ rest) is e = item_sound f rest is f.items refl e

pub step_sound : StepSound
unfolding step
step_sound world characters h state next word carried e = frames_sound world characters h state next word carried state.frames refl e
