-- Steps of a library function that is pending on top: it is done, takes another turn, calls back, keeps a function or
-- ends the program.
use Rattle.std.proofs.Common.{◌≡◌, ◌∙◌, inl, inr, ℕ, true, false, List, ◌∷◌, ◌++◌, length, Option, Some, None, Ok, refl, sym, ap, subst}
use Rattle.std.proofs.lemmas.Bool.{false≢true}
use Rattle.c_types.specs.declared.key.ObjectKey.{ObjectKey}
use Rattle.c_types.specs.declared.key.ObjectKey.TheVariants.{Entity as EntityKey, Text as TextKey, Call as CallKey, Library as LibraryKey, Star as StarKey, Function as FunctionKey, Varargs as VarargsKey, Outside as OutsideKey}
use Rattle.c_types.specs.declared.term.TypeId.{TypeId}
use Rattle.core_tree.specs.declared.node.Node.{Node}
use Rattle.core_tree.specs.Typed.{ValueNode, sort_of}
use Rattle.ref_cells.specs.declared.cells.Cell.{Cell}
use Rattle.ref_cells.specs.declared.cells.Value.{Value}
use Rattle.ref_elements.specs.declared.outcome.Next.{Next}
use Rattle.ref_elements.specs.declared.outcome.Next.TheVariants.{Done, Again, Calls, Keeps, Ends}
use Rattle.ref_elements.specs.Outcomes.{Effected}
use Rattle.ref_state.specs.declared.items.Item.{Item}
use Rattle.ref_state.specs.declared.items.Item.TheVariants.{Library}
use Rattle.ref_state.specs.declared.frames.Frame.{Frame}
use Rattle.ref_state.specs.declared.state.State.{State}
use Rattle.ref_state.specs.Items.{settled}
use Rattle.ref_blocks.specs.Ways.{kind_in, kind_at}
use Rattle.ref_frames.specs.declared.entering.Activation.{Activation}
use Rattle.ref_frames.specs.Frames.{entered}
use Rattle.ref_frames.specs.OnTop.{only, on_top}
use Rattle.ref_calls.specs.Library.{performed, comparison_of, back_by, goes_by, library_row}
use Rattle.covering_laws.specs.covered_state.World.{World, trees_of}
use Rattle.covering_laws.specs.covered_state.Items.{IsPending}
use Rattle.covered_runs.proofs.covered_steps.covered_values.Operands.{went, ok_one, err_ok}
use Rattle.covered_runs.specs.covered_steps.covered_effects.Served.{IsServed}
use Rattle.covered_runs.specs.covered_steps.covered_effects.Steps.{ConversionWaits, StaysCovered}
use Rattle.covered_runs.proofs.covered_steps.covered_effects.Called.{call_kind, EffectGoes}
use Rattle.covered_runs.proofs.covered_steps.covered_effects.Effects.{effect_goes, steps_effected}
use Rattle.covered_runs.proofs.covered_steps.covered_effects.Backed.{backed_goes, steps_backed}
use Rattle.covered_runs.specs.covered_steps.covered_statements.Stacked.{waits_next, PendingOn, Stacked, FramesStand}
use Rattle.covered_runs.specs.covered_steps.covered_statements.Runnable.{IsRunnable}
use Rattle.covered_runs.specs.covered_steps.covered_statements.Rows.{running_in}
use Rattle.covered_runs.proofs.covered_steps.covered_statements.Stacking.{deliver_stacked, item_gives, conversion_below}
use Rattle.covered_runs.proofs.covered_steps.covered_statements.Pending.{frames_stacked}
use Rattle.covered_runs.specs.machine_sound.Carried.{Carried}
use Rattle.covered_runs.proofs.machine_sound.Frames.{stays, no_wait, entered_stands}

module _ (world : World) (characters : TypeId) (runs : IsRunnable world) (served : IsServed world runs.stands characters) (state next : State) (word : ℕ) (carried : Carried world state) (f : Frame) (rest : List Frame)
    (frames_are : state.frames ≡ f ∷ rest) (n k : ℕ) (arguments : List Value) (items : List Item) (items_are : f.items ≡ Library n k arguments ∷ items) where
  stand : FramesStand world state.memory (f ∷ rest)
  stand = subst (FramesStand world state.memory) frames_are carried.steady.stacked

  own : Stacked (trees_of world).nodes (PendingOn world state.memory) (Library n k arguments ∷ items)
  own = subst (Stacked (trees_of world).nodes (PendingOn world state.memory)) items_are stand.0

  -- the value goes to the item below
  settled_stacked : (v : Value) → Stacked (trees_of world).nodes (PendingOn world state.memory) (settled n v f.items)
  settled_stacked v =
      subst (λ (list : List Item). Stacked (trees_of world).nodes (PendingOn world state.memory) (settled n v list)) (sym items_are)
      (deliver_stacked (trees_of world).nodes (PendingOn world state.memory) n v items (item_gives (trees_of world).nodes (PendingOn world state.memory) (Library n k arguments) items n refl own.1) own.2)

  no_next : waits_next f.items ≡ false
  no_next = ap waits_next items_are

  -- the frames stay stacked, however the effect goes on
  module _ (e : Effected) (goes : EffectGoes world state.memory n e) (after : StaysCovered world next) where
    with_items : (list : List Item) → Stacked (trees_of world).nodes (PendingOn world state.memory) list → FramesStand world e.memory (record f { items = list } ∷ rest)
    with_items list h = frames_stacked world state.memory e.memory goes.leaves.extends (record f { items = list } ∷ rest) (h, stand.1, stand.2)

    -- a function of the library is called back, on top of the one that is pending
    backs : (callee : Cell) (given : List Value) (other : ℕ) → e.outcome.next ≡ Calls callee given → comparison_of (trees_of world) callee ≡ Ok (FunctionKey other)
        → FramesStand world e.memory (record f { items = Library n other given ∷ f.items } ∷ rest)
    backs callee given other is is_comparison =
        with_items (Library n other given ∷ f.items) (inr (no_next, goes.back callee given other is is_comparison), (λ waits. absurd (false≢true (sym no_next ∙ waits))), stand.0)

    -- one with a body is called back
    enters : (other : ℕ) (given : List Value) (made : Activation) → entered (running_in world characters) (length e.memory) (record { function = other; call = None; by = Some k }) given ≡ Ok made
        → on_top (record state { memory = e.memory }) (f ∷ rest) (only made.stores) made ≡ next → FramesStand world (e.memory ++ made.fresh) (made.frame ∷ f ∷ rest)
    enters other given made is_entered is =
        let here : StaysCovered world (on_top (record state { memory = e.memory }) (f ∷ rest) (only made.stores) made) = subst (StaysCovered world) (sym is) after in
        entered_stands world runs characters e.memory other k given made (f ∷ rest) is_entered here.covered.frames.0 (frames_stacked world state.memory e.memory goes.leaves.extends (f ∷ rest) stand)

    called_back : (callee : Cell) (given : List Value) → e.outcome.next ≡ Calls callee given → (key : ObjectKey) → comparison_of (trees_of world) callee ≡ Ok key
        → back_by (running_in world characters) (record state { memory = e.memory }) f rest n k given key ≡ Ok next → FramesStand world next.memory next.frames
    called_back callee given is (FunctionKey other) is_comparison h = subst (λ (s : State). FramesStand world s.memory s.frames) (ok_one h) (backs callee given other is is_comparison)
    called_back callee given is (EntityKey other) is_comparison h =
        let r =
        went (entered (running_in world characters) (length e.memory) (record { function = other; call = None; by = Some k }) given) (λ made. Ok (on_top (record state { memory = e.memory }) (f ∷ rest) (only made.stores) made)) next h in
        subst (λ (s : State). FramesStand world s.memory s.frames) (ok_one r.2) (enters other given r.0 r.1 (ok_one r.2))
    called_back callee given is (TextKey m) is_comparison h = absurd (err_ok h)
    called_back callee given is (CallKey m) is_comparison h = absurd (err_ok h)
    called_back callee given is (LibraryKey m) is_comparison h = absurd (err_ok h)
    called_back callee given is (StarKey m) is_comparison h = absurd (err_ok h)
    called_back callee given is (VarargsKey m) is_comparison h = absurd (err_ok h)
    called_back callee given is OutsideKey is_comparison h = absurd (err_ok h)

    goes_stacked : (x : Next) → e.outcome.next ≡ x → goes_by (running_in world characters) (record state { memory = e.memory }) f rest n k e.outcome.value e.outcome.stores x ≡ Ok next → FramesStand world next.memory next.frames
    goes_stacked Done is h = subst (λ (s : State). FramesStand world s.memory s.frames) (ok_one h) (with_items (settled n e.outcome.value f.items) (settled_stacked e.outcome.value))
    goes_stacked Again is h = subst (λ (s : State). FramesStand world s.memory s.frames) (ok_one h) (with_items f.items stand.0)
    goes_stacked (Keeps cell) is h = subst (λ (s : State). FramesStand world s.memory s.frames) (ok_one h) (with_items (settled n e.outcome.value f.items) (settled_stacked e.outcome.value))
    goes_stacked (Ends status at_once) is h = subst (λ (s : State). FramesStand world s.memory s.frames) (ok_one h) tt
    goes_stacked (Calls callee given) is h =
        let r = went (comparison_of (trees_of world) callee) (λ (key : ObjectKey). back_by (running_in world characters) (record state { memory = e.memory }) f rest n k given key) next h in
        called_back callee given is r.0 r.1 r.2

  library_so : library_row (running_in world characters) state f rest n k arguments word ≡ Ok next → StaysCovered world next
      → ((e : Effected) → performed (running_in world characters) state.memory n k arguments word ≡ Ok e → EffectGoes world state.memory n e) → Carried world next
  unfolding library_row
  library_so h after goes =
      let r =
      went (performed (running_in world characters) state.memory n k arguments word)
      (λ e. goes_by (running_in world characters) (record state { memory = e.memory }) f rest n k e.outcome.value e.outcome.stores e.outcome.next) next h in
      record { steady = record { covered = after.covered; stacked = goes_stacked r.0 (goes r.0 r.1) after r.0.outcome.next refl r.2 }; found = after.found }

  -- the call's conversion waits for it right below
  conversion : waits_next items ≡ true → IsPending world state.memory n k arguments → ConversionWaits world n items
  conversion waits pending m node there kind children = conversion_below (trees_of world) runs.once n m node items value (own.1 waits) there kind children
    where
      value : sort_of (kind_at (trees_of world).nodes n) ≡ ValueNode
      value = ap (λ (o : Option Node). sort_of (kind_in o)) pending.there ∙ ap sort_of (call_kind world pending.target.call n pending.node pending.target.call_is pending.there)

  pub library : library_row (running_in world characters) state f rest n k arguments word ≡ Ok next → Carried world next
  library h = by own.0
    where
      by : PendingOn world state.memory n k arguments items → Carried world next
      by (inl called) =
          let waits = conversion called.0 called.1 in
          library_so h
          (steps_effected world runs.stands characters served state f rest n k arguments items word next (stays world state carried) frames_are items_are called.1 waits h)
          (effect_goes world runs.stands characters served state f rest n k arguments items word (stays world state carried) frames_are items_are called.1 waits)
      by (inr back) =
          library_so h
          (steps_backed world runs.stands characters served state f rest n k arguments items word next (stays world state carried) frames_are items_are back.1 (no_wait items back.0) h)
          (backed_goes world runs.stands characters served state f rest n k arguments items word (stays world state carried) frames_are items_are back.1 (no_wait items back.0))
