-- Leaving a frame keeps the state covered and stacked.
use Rattle.std.proofs.Common.{◌≡◌, ◌∙◌, inl, inr, ◌⊎◌, ℕ, false, cond, pos, List, [], ◌∷◌, length, Option, Some, None, refl, sym, ap, subst}
use Rattle.std.specs.Option.{option_map}
use Rattle.c_types.specs.declared.key.ObjectKey.{ObjectKey}
use Rattle.c_types.specs.declared.key.ObjectKey.TheVariants.{Entity as EntityKey}
use Rattle.type_rules.specs.Conversions.{result_of}
use Rattle.core_tree.specs.declared.node.Entity.{Entity}
use Rattle.core_tree.specs.declared.node.NodeKind.TheVariants.{CallNode}
use Rattle.core_tree.specs.Typed.{type_at}
use Rattle.row_numbers.specs.Functions.{entity_in, type_or_void, key_type}
use Rattle.call_sites.specs.Calls.{calls_upto, IsSiteAt}
use Rattle.ref_cells.specs.declared.cells.Cell.TheVariants.{Number}
use Rattle.ref_cells.specs.declared.cells.Value.{Value}
use Rattle.ref_cells.specs.declared.instance.Instance.{Instance}
use Rattle.ref_mem.specs.Reads.{one_cell}
use Rattle.ref_state.specs.declared.items.Item.{Item}
use Rattle.ref_state.specs.declared.items.Item.TheVariants.{Result as Returned}
use Rattle.ref_state.specs.declared.frames.Frame.{Frame}
use Rattle.ref_state.specs.declared.state.State.{State}
use Rattle.ref_state.specs.Changes.{ended_all}
use Rattle.ref_state.specs.Items.{settled}
use Rattle.ref_state.specs.Values.{no_value, cell_of}
use Rattle.ref_frames.specs.Frames.{is_main_in, given_by, caller_given, status_by, all_ended, finished, left_start, left_with}
use Rattle.ref_frames.specs.OnTop.{only}
use Rattle.covering_laws.specs.covered_types.Whole.{IsHeld}
use Rattle.covering_laws.proofs.grown_programs.Listed.{call_there}
use Rattle.covering_laws.specs.covered_state.World.{World, trees_of, view_in, setting_in}
use Rattle.covering_laws.specs.covered_state.Items.{Each, NodeIn, ReturnedIn}
use Rattle.covering_laws.specs.covered_state.State.{CalledIn, FrameIn, Covered}
use Rattle.covering_laws.proofs.covered_state.Stays.{frames_stay, handed_stay}
use Rattle.covered_runs.proofs.covered_steps.covered_values.Awaited.{top_one}
use Rattle.covered_runs.proofs.covered_steps.covered_values.Operands.{operand_in}
use Rattle.covered_runs.specs.covered_steps.Steps.{nothing, NoneBare}
use Rattle.covered_runs.proofs.covered_steps.Steps.{own_frames, own_items}
use Rattle.covered_runs.proofs.covered_steps.Made.{instances_ended}
use Rattle.covered_runs.proofs.covered_steps.Frames.{cons_empty, returned_wait, ended_back, steps_left}
use Rattle.covered_runs.proofs.covered_steps.covered_calls.Activations.{zip_at}
use Rattle.covered_runs.proofs.covered_steps.covered_calls.Handed.{steps_handed}
use Rattle.covered_runs.proofs.covered_steps.covered_calls.Results.{steps_given}
use Rattle.covered_runs.specs.covered_steps.covered_statements.Stacked.{PendingOn, Stacked, top_node, CallStands, FramesStand}
use Rattle.covered_runs.specs.covered_steps.covered_statements.Runnable.{IsRunnable, Steady}
use Rattle.covered_runs.specs.covered_steps.covered_statements.Rows.{LeavesSteady}
use Rattle.covered_runs.proofs.covered_steps.covered_statements.Stacking.{deliver_stacked, item_gives}
use Rattle.covered_runs.proofs.covered_steps.covered_statements.Keys.{HasBody, function_body}
use Rattle.covered_runs.proofs.covered_steps.covered_statements.Pending.{frames_stacked}
use Rattle.covered_runs.proofs.covered_steps.covered_statements.Kept.{Keeps, keeps_same, keeps_then, back_bare}

some_one : {X : Type 0} → {x y : X} → ◌≡◌ {A = Option X} (Some x) (Some y) → x ≡ y
some_one h = cc

none_some : {X : Type 0} → {x : X} → ◌≡◌ {A = Option X} None (Some x) → ⊥
none_some h = cc

module _ (world : World) (runs : IsRunnable world) where
  keeps_ended : (memory : List Instance) (list : List ℕ) → Keeps world memory (ended_all memory list)
  keeps_ended memory list all =
      let one = instances_ended world memory list runs.stands.grounds all in
      (one, back_bare world memory (ended_all memory list) one (ended_back list memory))

  keeps_all_ended : (frames : List Frame) (memory : List Instance) → Keeps world memory (all_ended memory frames)
  keeps_all_ended [] memory = keeps_same world memory
  keeps_all_ended (f ∷ rest) memory = keeps_then world memory (ended_all memory f.instances) (all_ended (ended_all memory f.instances) rest) (keeps_ended memory f.instances) (keeps_all_ended rest (ended_all memory f.instances))

module _ (world : World) (runs : IsRunnable world) (state : State) (f : Frame) (rest : List Frame) (value : Value) (steady : Steady world state) (frames_are : state.frames ≡ f ∷ rest)
    (done : ((f.items ≡ []) × (value ≡ no_value)) ⊎ ((items : List Item) × (f.items ≡ Returned value ∷ items))) where
  frames_stand : FramesStand world state.memory (f ∷ rest)
  frames_stand = subst (FramesStand world state.memory) frames_are steady.stacked

  none : NoneBare world state.memory
  none i inst at b =
      let w = steady.covered.awaited.each i inst at b in
      let same = ap (λ (g : Frame). g.items) (top_one (sym frames_are ∙ w.frames_are)) ∙ w.items_are in
      elim done [
        | inl empty ↦ cons_empty (sym same ∙ empty.0)
        | inr result ↦ returned_wait (top_one (sym result.1 ∙ same))
      ]

  -- nothing waits for a frame that was called by the library, or by none
  left_covered : (memory : List Instance) (frames : List Frame) → Keeps world state.memory memory → Each (FrameIn world state.memory) frames → Covered world (record state { memory = memory; frames = frames; notes = nothing })
  left_covered memory frames keeps h =
      let kept = keeps steady.covered.memory in
      record {
        memory = kept.0.covered;
        frames = frames_stay world state.memory memory kept.0.extends frames h;
        kept = steady.covered.kept;
        notes = record { target = tt; stores = tt };
        handed = handed_stay world state.memory memory kept.0.extends state.handed steady.covered.handed;
        awaited = record { each = λ i inst at b. absurd (kept.1 none i inst at b) };
      }

  called_back : (k : ℕ) → Steady world (record (left_with (trees_of world) world.program.entries.items state f rest value None (Some k)) { notes = only [] })
  called_back k = record {
    covered = left_covered (ended_all state.memory f.instances) rest (keeps_ended world runs state.memory f.instances) (own_frames world state f rest steady.covered frames_are).1;
    stacked = frames_stacked world state.memory (ended_all state.memory f.instances) (keeps_ended world runs state.memory f.instances steady.covered.memory).0.extends rest frames_stand.2;
  }

  -- where main is left the program ends
  ended : Steady world (record (left_start (trees_of world) [] state f rest value) { notes = only [] })
  ended = record {
    covered = at_end;
    stacked = tt;
  }
    where
      at_end : Covered world (record (finished state (status_by (cell_of value)) false) { notes = nothing })
      at_end =
          let before = left_covered (all_ended state.memory state.frames) [] (keeps_all_ended world runs state.frames state.memory) tt in
          record { memory = before.memory; frames = before.frames; kept = before.kept; notes = before.notes; handed = before.handed; awaited = record { each = before.awaited.each } }

  -- where a function is at which the program is entered, what it gives goes outside
  handed : f.call ≡ None → f.by ≡ None → (first : ℕ) (more : List ℕ) → world.program.entries.items ≡ first ∷ more
      → Steady world (record (left_start (trees_of world) (first ∷ more) state f rest value) { notes = only [] })
  handed call by first more entries = record {
    covered = subst (λ (list : List ℕ). Covered world (record (left_start (trees_of world) list state f rest value) { notes = nothing })) entries
        (subst (λ (b : Option ℕ). Covered world (record (left_with (trees_of world) world.program.entries.items state f rest value None b) { notes = nothing })) by
        (subst (λ (c : Option ℕ). Covered world (record (left_with (trees_of world) world.program.entries.items state f rest value c f.by) { notes = nothing })) call
        (steps_handed world state f rest first more value runs.stands steady.covered frames_are call by entries done)));
    stacked = frames_stacked world state.memory (ended_all state.memory f.instances) (keeps_ended world runs state.memory f.instances steady.covered.memory).0.extends rest frames_stand.2;
  }

  by_entries : f.call ≡ None → f.by ≡ None → (list : List ℕ) → world.program.entries.items ≡ list → Steady world (record (left_start (trees_of world) list state f rest value) { notes = only [] })
  by_entries call by [] is = ended
  by_entries call by (first ∷ more) is = handed call by first more is

  -- the value goes to the item below the call
  given_stands : (n : ℕ) (v : Value) (frames : List Frame) → CallStands (Some n) frames → FramesStand world state.memory frames → FramesStand world state.memory (caller_given n v frames)
  given_stands n v [] at h = tt
  given_stands n v (g ∷ more) at h = (by g.items at h.0, h.1, h.2)
    where
      by : (items : List Item) → top_node items ≡ Some n → Stacked (trees_of world).nodes (PendingOn world state.memory) items → Stacked (trees_of world).nodes (PendingOn world state.memory) (settled n v items)
      by [] e s = absurd (none_some e)
      by (top ∷ items) e s = deliver_stacked (trees_of world).nodes (PendingOn world state.memory) n v items (item_gives (trees_of world).nodes (PendingOn world state.memory) top items n e s.1) s.2

  given_back : (n : ℕ) → f.call ≡ Some n → (by : Option ℕ) → f.by ≡ by → Steady world (record (left_with (trees_of world) world.program.entries.items state f rest value (Some n) by) { notes = only [] })
  given_back n call by by_is = record {
    covered = so f.function refl;
    stacked = frames_stacked world state.memory (ended_all state.memory f.instances) (keeps_ended world runs state.memory f.instances steady.covered.memory).0.extends
        (caller_given n (given_by (trees_of world) f.function value) rest)
        (given_stands n (given_by (trees_of world) f.function value) rest (subst (λ (o : Option ℕ). CallStands o rest) call frames_stand.1) frames_stand.2);
  }
    where
      called : CalledIn world f.function (Some n)
      called = subst (CalledIn world f.function) call (own_frames world state f rest steady.covered frames_are).0.called

      site : IsSiteAt (setting_in world) n called.0.target.0
      site = zip_at (IsSiteAt (setting_in world)) (calls_upto (trees_of world).nodes (length (trees_of world).nodes)) world.system.calls called.0.call n called.0.target.0 world.is_system.calls called.0.call_is called.0.target.2

      kind : site.node.kind ≡ CallNode
      kind = call_there (trees_of world).nodes (length (trees_of world).nodes) called.0.call n called.0.call_is site.node site.there

      held : (g : ℕ) → f.function ≡ EntityKey g → IsHeld world.program.types (type_at (trees_of world) n)
      held g is =
          let body = subst (HasBody (trees_of world)) is (function_body (trees_of world) (view_in world) called.0.function f.function called.0.function_is) in
          subst (IsHeld world.program.types) (sym (ap (λ (o : Option Entity). result_of (type_or_void world.program.types (option_map (λ (x : Entity). x.ty) o))) body.1) ∙ (ap (λ (k : ObjectKey). result_of (key_type (trees_of world) k)) (sym is) ∙ called.1)) (runs.results g body.0 body.1 body.2)

      -- what is no entity returns nothing
      other : (key : ObjectKey) → f.function ≡ key → entity_in (trees_of world) key ≡ None → (ReturnedIn world state.memory key value → ⊥) → Covered world (record (left_with (trees_of world) world.program.entries.items state f rest value (Some n) by) { notes = nothing })
      other key is lone returns = elim done [
        | inl empty ↦ steps_left world state f rest n (given_by (trees_of world) f.function value) runs.stands.grounds steady.covered frames_are (inl empty.0)
            (subst (λ (v : Value). NodeIn world state.memory n (given_by (trees_of world) f.function v)) (sym empty.1)
            (subst (λ (k : ObjectKey). NodeIn world state.memory n (given_by (trees_of world) k no_value)) (sym is)
            (subst (NodeIn world state.memory n) (sym (ap (λ (o : Option Entity). cond (is_main_in o) (one_cell (Number (pos 0))) no_value) lone)) (operand_in world state.memory [] tt n))))
        | inr result ↦ absurd (returns (subst (λ (k : ObjectKey). ReturnedIn world state.memory k value) is (own_items world state f rest steady.covered frames_are (Returned value) result.0 result.1).0))
      ]

      so : (key : ObjectKey) → f.function ≡ key → Covered world (record (left_with (trees_of world) world.program.entries.items state f rest value (Some n) by) { notes = nothing })
      so (EntityKey g) is =
          subst (λ (c : Option ℕ). Covered world (record (left_with (trees_of world) world.program.entries.items state f rest value c by) { notes = nothing })) call
          (subst (λ (b : Option ℕ). Covered world (record (left_with (trees_of world) world.program.entries.items state f rest value f.call b) { notes = nothing })) by_is
          (steps_given world state f rest n site.node value runs.stands steady.covered frames_are call site.there kind (held g is) done))
      so key is = other key is refl (λ h. h)

  by_call : (call : Option ℕ) → f.call ≡ call → (by : Option ℕ) → f.by ≡ by → Steady world (record (left_with (trees_of world) world.program.entries.items state f rest value call by) { notes = only [] })
  by_call (Some n) is by by_is = given_back n is by by_is
  by_call None is (Some k) by_is = called_back k
  by_call None is None by_is = by_entries is by_is world.program.entries.items refl

pub leaves_steady : LeavesSteady
leaves_steady world state f rest value runs steady frames_are done = by_call world runs state f rest value steady frames_are done f.call refl f.by refl
