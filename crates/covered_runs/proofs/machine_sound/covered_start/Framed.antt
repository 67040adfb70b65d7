-- A function's frame on top of none, over a covered memory.
use Rattle.std.proofs.Common.{◌≡◌, ◌∙◌, inl, inr, ℕ, List, [], ◌∷◌, ◌++◌, sym, subst}
use Rattle.c_types.specs.declared.key.ObjectKey.TheVariants.{Entity as EntityKey}
use Rattle.c_types.specs.declared.term.TypeId.{TypeId}
use Rattle.core_tree.specs.declared.node.Storage.TheVariants.{FunctionBody}
use Rattle.ref_cells.specs.declared.cells.Cell.{Cell}
use Rattle.ref_cells.specs.declared.cells.Value.{Value}
use Rattle.ref_cells.specs.declared.instance.Instance.{Instance}
use Rattle.ref_state.specs.declared.frames.Frame.{Frame}
use Rattle.ref_state.specs.declared.state.State.{State}
use Rattle.ref_frames.specs.declared.entering.Activation.{Activation}
use Rattle.ref_frames.specs.Frames.{frame_over}
use Rattle.ref_frames.specs.OnTop.{only}
use Rattle.ref_start.specs.Begin.{main_entry}
use Rattle.covering_laws.specs.covered_memory.Covered.{MemoryIn}
use Rattle.covering_laws.specs.covered_library.Calls.{StoresIn}
use Rattle.covering_laws.specs.covered_state.World.{World, sets_of}
use Rattle.covering_laws.specs.covered_state.Items.{Each}
use Rattle.covering_laws.specs.covered_state.Awaited.{IsBare}
use Rattle.covering_laws.specs.covered_state.State.{IsEntered as MayEnter, HandedIn}
use Rattle.covered_runs.specs.covered_steps.Steps.{NoneBare}
use Rattle.covered_runs.proofs.covered_steps.Frames.{get_either}
use Rattle.covered_runs.proofs.covered_steps.Steps.{each_at}
use Rattle.covered_runs.specs.covered_steps.covered_statements.Runnable.{IsRunnable, Steady}
use Rattle.covered_runs.proofs.covered_steps.covered_statements.Calling.{IsEntered, body_owned, body_stands}

-- where none waits for a type, none does beside new instances that don't
pub more_bare : (world : World) (xs ys : List Instance) → NoneBare world xs → Each (λ x. IsBare world x → ⊥) ys → NoneBare world (xs ++ ys)
more_bare world xs ys none new i inst at b = elim (get_either xs ys i inst at) [
  | inl before ↦ none i inst before b
  | inr behind ↦ each_at (λ x. IsBare world x → ⊥) ys behind.0 inst behind.1 new b
]

module _ (world : World) (runs : IsRunnable world) (state : State) (steady : Steady world state) (outside : state.frames ≡ []) where
  -- nothing waits for a type where there is no frame
  pub none_bare : NoneBare world state.memory
  none_bare i inst at b = (let w = steady.covered.awaited.each i inst at b in no_frame (sym outside ∙ w.frames_are))
    where
      no_frame : {f : Frame} → {rest : List Frame} → ◌≡◌ {A = List Frame} [] (f ∷ rest) → ⊥
      no_frame h = cc

  -- the state with the frame of a function that nothing called
  module _ (memory fresh : List Instance) (handed : List (TypeId × Cell)) (stores : List (Cell × Cell)) (all : MemoryIn (sets_of world) memory) (none : NoneBare world memory) (held : Each (HandedIn world memory) handed)
      (stored : StoresIn (sets_of world) memory stores) where
    pub framed : (e count : ℕ) (arguments : List Value) (made : Activation) → (inv : IsEntered world count (main_entry e) arguments made) → inv.entity.storage ≡ FunctionBody → MayEnter world (EntityKey e)
        → Steady world (record state { memory = memory; frames = frame_over (main_entry e) count inv.body fresh ∷ state.frames; notes = only stores; handed = handed })
    framed e count arguments made inv storage may =
        subst (λ (frames : List Frame). Steady world (record state { memory = memory; frames = frame_over (main_entry e) count inv.body fresh ∷ frames; notes = only stores; handed = handed })) (sym outside)
        (record {
          covered = record {
            memory = all;
            frames = (record { called = tt; back = tt; entered = may; items = (body_owned world runs e inv.body inv.entity inv.there storage inv.body_is, tt) }, tt);
            kept = steady.covered.kept;
            notes = record { target = tt; stores = stored };
            handed = held;
            awaited = record { each = λ i inst at b. absurd (none i inst at b) };
          };
          stacked = (body_stands world runs e inv.body inv.entity inv.there storage inv.body_is memory, tt, tt);
        })
