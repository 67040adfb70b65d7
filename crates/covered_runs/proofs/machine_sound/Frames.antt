-- What is carried from a state to the next one, and a function's frame that comes on top of others.
use Rattle.std.proofs.Common.{◌≡◌, ◌∙◌, ℕ, true, false, List, [], ◌∷◌, ◌++◌, length, Option, Some, None, Ok, sym, ap, subst}
use Rattle.std.proofs.lemmas.Bool.{false≢true}
use Rattle.c_types.specs.declared.key.ObjectKey.TheVariants.{Entity as EntityKey}
use Rattle.c_types.specs.declared.term.TypeId.{TypeId}
use Rattle.core_tree.specs.declared.node.Entity.{Entity}
use Rattle.core_tree.specs.declared.node.Storage.TheVariants.{FunctionBody}
use Rattle.ref_cells.specs.declared.cells.Value.{Value}
use Rattle.ref_cells.specs.declared.instance.Instance.{Instance}
use Rattle.ref_state.specs.declared.items.Item.{Item}
use Rattle.ref_state.specs.declared.items.Item.TheVariants.{Do, Wait, Library, Result as Returned}
use Rattle.ref_state.specs.declared.frames.Frame.{Frame}
use Rattle.ref_state.specs.declared.state.State.{State}
use Rattle.ref_frames.specs.declared.entering.Activation.{Activation}
use Rattle.ref_frames.specs.declared.entering.Entry.{Entry}
use Rattle.ref_frames.specs.Frames.{entered}
use Rattle.covering_laws.specs.covered_state.World.{World, trees_of, view_in}
use Rattle.covering_laws.specs.covered_state.Items.{Each}
use Rattle.covering_laws.specs.covered_state.State.{IsInGraph, BackIn, FrameIn}
use Rattle.covered_runs.specs.covered_steps.covered_calls.Activations.{objects_entered}
use Rattle.covered_runs.specs.covered_steps.covered_effects.Steps.{IsKeptFound, StaysCovered, IsNoWait}
use Rattle.covered_runs.specs.covered_steps.covered_statements.Stacked.{waits_next, FramesStand}
use Rattle.covered_runs.specs.covered_steps.covered_statements.Runnable.{IsRunnable, Steady}
use Rattle.covered_runs.specs.covered_steps.covered_statements.Rows.{running_in}
use Rattle.covered_runs.proofs.covered_steps.covered_statements.Keys.{HasBody, function_body}
use Rattle.covered_runs.proofs.covered_steps.covered_statements.Pending.{frames_stacked}
use Rattle.covered_runs.proofs.covered_steps.covered_statements.Calling.{more_extends, body_stands, IsEntered, entered_inv}
use Rattle.covered_runs.specs.machine_sound.Carried.{Carried}

some_one : {X : Type 0} → {x y : X} → ◌≡◌ {A = Option X} (Some x) (Some y) → x ≡ y
some_one h = cc

-- the functions that are kept stay, whatever else a step does
pub carries : (world : World) (state next : State) → Carried world state → next.kept ≡ state.kept → Steady world next → Carried world next
carries world state next carried same steady =
    record { steady = steady; found = record { each = subst (Each (λ entry. IsKeptFound world entry.0)) (sym same) carried.found.each } }

-- what is carried, as the library's laws take it
pub stays : (world : World) (state : State) → Carried world state → StaysCovered world state
stays world state carried = record { covered = carried.steady.covered; found = carried.found }

-- where nothing waits next, the next item is none that waits
pub no_wait : (items : List Item) → waits_next items ≡ false → IsNoWait items
no_wait [] h = tt
no_wait (Do n ∷ rest) h = tt
no_wait (Wait n left values ∷ rest) h = absurd (false≢true (sym h))
no_wait (Library n k arguments ∷ rest) h = tt
no_wait (Returned v ∷ rest) h = tt

-- a function that no call of the program's enters: its frame is covered, so it is one of the program's functions, and
-- its body stands on top of the frames below
module _ (world : World) (runs : IsRunnable world) (characters : TypeId) (memory : List Instance) (e library : ℕ) (arguments : List Value) (made : Activation) (below : List Frame)
    (is_entered : entered (running_in world characters) (length memory) (record { function = e; call = None; by = Some library }) arguments ≡ Ok made)
    (framed : FrameIn world (memory ++ made.fresh) made.frame) where
  abbrev entry : Entry
  entry = record { function = e; call = None; by = Some library }

  inv : IsEntered world (length memory) entry arguments made
  inv = entered_inv world characters (length memory) entry arguments made is_entered

  graph : IsInGraph world library (EntityKey e)
  graph = subst (λ (m : Activation). BackIn world m.frame.function m.frame.by) (sym inv.made_is) framed.back

  own : HasBody (trees_of world) (EntityKey e)
  own = function_body (trees_of world) (view_in world) graph.callee (EntityKey e) graph.callee_is

  storage : inv.entity.storage ≡ FunctionBody
  storage = ap (λ (x : Entity). x.storage) (some_one (sym inv.there ∙ own.1)) ∙ own.2

  abbrev objects : List Instance
  objects = objects_entered world e arguments

  pub entered_stands : FramesStand world memory below → FramesStand world (memory ++ made.fresh) (made.frame ∷ below)
  entered_stands h =
      subst (λ (a : Activation). FramesStand world (memory ++ a.fresh) (a.frame ∷ below)) inv.made_is
      (body_stands world runs e inv.body inv.entity inv.there storage inv.body_is (memory ++ objects), tt, frames_stacked world memory (memory ++ objects) (more_extends world memory objects) below h)
