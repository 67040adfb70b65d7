-- Steps of the top frame that the program's nodes make: a node is begun, goes on, or calls.
use Rattle.std.proofs.Common.{◌≡◌, ◌∙◌, inl, inr, ℕ, Bool, true, false, cond, List, [], ◌∷◌, length, Option, Some, None, Result, Ok, Err, slice_get, refl, sym, ap, subst}
use Rattle.std.proofs.lemmas.Bool.{false≢true}
use Rattle.c_types.specs.declared.key.ObjectKey.{ObjectKey}
use Rattle.c_types.specs.declared.key.ObjectKey.TheVariants.{Entity as EntityKey, Text as TextKey, Call as CallKey, Library as LibraryKey, Star as StarKey, Function as FunctionKey, Varargs as VarargsKey, Outside as OutsideKey}
use Rattle.c_types.specs.declared.term.TypeId.{TypeId}
use Rattle.core_tree.specs.declared.node.Node.{Node}
use Rattle.core_tree.specs.declared.node.NodeKind.{NodeKind}
use Rattle.core_tree.specs.declared.node.NodeKind.TheVariants.{CallNode, Convert, NextArg}
use Rattle.core_tree.specs.Typed.{CoreTrees, ValueNode, sort_of}
use Rattle.row_numbers.specs.Functions.{key_type}
use Rattle.call_sites.specs.Signatures.{called_type}
use Rattle.call_sites.specs.Calls.{is_call}
use Rattle.ref_cells.specs.declared.cells.Reason.{Reason}
use Rattle.ref_cells.specs.declared.cells.Value.{Value}
use Rattle.ref_elements.specs.Outcomes.{Effected}
use Rattle.ref_state.specs.declared.items.Item.{Item}
use Rattle.ref_state.specs.declared.items.Item.TheVariants.{Do, Wait, Library}
use Rattle.ref_state.specs.declared.frames.Frame.{Frame}
use Rattle.ref_state.specs.declared.state.State.{State}
use Rattle.ref_state.specs.Items.{replaced, settled}
use Rattle.ref_blocks.specs.Ways.{kind_in, kind_at}
use Rattle.ref_statements.specs.Rows.{Next, Row}
use Rattle.ref_statements.specs.Nodes.{do_row, wait_row}
use Rattle.ref_frames.specs.declared.entering.Activation.{Activation}
use Rattle.ref_frames.specs.Frames.{entered}
use Rattle.ref_frames.specs.OnTop.{only, on_top}
use Rattle.ref_calls.specs.declared.reached.Target.{Target}
use Rattle.ref_calls.specs.Reached.{reached}
use Rattle.ref_calls.specs.Lists.{is_next, taken_at, next_row}
use Rattle.ref_machine.specs.Step.{placed, is_direct, target_of, noted, called, call_row, is_call_at, calls, is_next_at, takes, waited}
use Rattle.covering_laws.specs.covered_types.Calls.{call_type}
use Rattle.covering_laws.specs.covered_memory.Covered.{MemoryIn}
use Rattle.covering_laws.specs.covered_state.World.{World, trees_of, sets_of, IsTargetAt}
use Rattle.covering_laws.specs.covered_state.Items.{IsPending}
use Rattle.covering_laws.specs.covered_state.State.{TargetNoted}
use Rattle.covered_runs.proofs.covered_steps.covered_values.Operands.{went, ok_one, err_ok}
use Rattle.covered_runs.proofs.covered_steps.Steps.{own_items}
use Rattle.covered_runs.specs.covered_steps.covered_calls.Activations.{Reaches}
use Rattle.covered_runs.specs.covered_steps.covered_effects.Served.{IsServed}
use Rattle.covered_runs.specs.covered_steps.covered_effects.Steps.{HasReached, NotesTarget}
use Rattle.covered_runs.proofs.covered_steps.covered_effects.Reaching.{all_given, reached_covered, steps_pended}
use Rattle.call_sites.specs.Calls.{rest_of}
use Rattle.ref_state.specs.Values.{value_in}
use Rattle.covered_runs.specs.covered_steps.covered_statements.Stacked.{PendingOn, Stacked, FramesStand}
use Rattle.covered_runs.specs.covered_steps.covered_statements.Runnable.{IsRunnable, Steady}
use Rattle.covered_runs.specs.covered_steps.covered_statements.Rows.{running_in}
use Rattle.covered_runs.proofs.covered_steps.covered_statements.Stacking.{pended_stacked}
use Rattle.covered_runs.proofs.covered_steps.covered_statements.Nodes.{begun_steady, waits_steady, settles_steady}
use Rattle.covered_runs.proofs.covered_steps.covered_statements.Calling.{calls_steady}
use Rattle.covered_runs.specs.machine_sound.Carried.{Carried}
use Rattle.covered_runs.proofs.machine_sound.Lists.{next_computed}
use Rattle.covered_runs.proofs.machine_sound.Frames.{carries}

kind_call : (kind : NodeKind) → is_call kind ≡ true → kind ≡ CallNode
kind_call CallNode e = refl
kind_call kind e = absurd (false≢true e)

-- a call, all of whose operands are there
pub record IsCall (u : CoreTrees) (n : ℕ) (left : List ℕ) : Type 0 where
  pub none : left ≡ []
  pub node : Node
  pub there : slice_get u.nodes n ≡ Some node
  pub kind : node.kind ≡ CallNode

pub call_here : (u : CoreTrees) (n : ℕ) (left : List ℕ) → calls u n left ≡ true → IsCall u n left
call_here u n [] e = at (slice_get u.nodes n) refl e
  where
    at : (o : Option Node) → slice_get u.nodes n ≡ o → is_call_at o ≡ true → IsCall u n []
    at None is h = absurd (false≢true h)
    at (Some node) is h = record { none = refl; node = node; there = is; kind = kind_call node.kind h }
call_here u n (c ∷ operands) e = absurd (false≢true e)

-- a node that takes the next one of a list, whose operand is there
record IsNext (u : CoreTrees) (n : ℕ) (left : List ℕ) : Type 0 where
  none : left ≡ []
  node : Node
  there : slice_get u.nodes n ≡ Some node
  kind : node.kind ≡ NextArg

kind_next : (kind : NodeKind) → is_next kind ≡ true → kind ≡ NextArg
kind_next NextArg e = refl
kind_next kind e = absurd (false≢true e)

next_here : (u : CoreTrees) (n : ℕ) (left : List ℕ) → takes u n left ≡ true → IsNext u n left
next_here u n [] e = at (slice_get u.nodes n) refl e
  where
    at : (o : Option Node) → slice_get u.nodes n ≡ o → is_next_at o ≡ true → IsNext u n []
    at None is h = absurd (false≢true h)
    at (Some node) is h = record { none = refl; node = node; there = is; kind = kind_next node.kind h }
next_here u n (c ∷ operands) e = absurd (false≢true e)

next_convert : NextArg ≡ Convert → ⊥
next_convert h = cc

-- what its effect leaves
abbrev settled_so : State → Frame → List Frame → ℕ → Effected → Result State Reason
settled_so state f rest n e =
    Ok (record state { memory = e.memory; frames = record f { items = settled n e.outcome.value f.items } ∷ rest; notes = only e.outcome.stores })

-- what a call notes is a target of it
target_noted : (world : World) (direct : Bool) (n : ℕ) (key : ObjectKey) → IsTargetAt world n key → TargetNoted world (target_of direct n key)
target_noted world true n key h = tt
target_noted world false n key h = h

notes_target : (direct : Bool) (n : ℕ) (key : ObjectKey) → NotesTarget n key (target_of direct n key)
notes_target true n key = inl refl
notes_target false n key = inr refl

module _ (world : World) (characters : TypeId) (runs : IsRunnable world) (served : IsServed world runs.stands characters) (state next : State) (word : ℕ) (carried : Carried world state) (f : Frame) (rest : List Frame)
    (frames_are : state.frames ≡ f ∷ rest) where
  -- what a row leaves
  row_placed : (row : Row) → placed state rest row ≡ Ok next → ((x : Next) → row ≡ Ok x → Steady world (record state { memory = x.memory; frames = x.frame ∷ rest; notes = only x.stores })) → Carried world next
  row_placed (Ok x) e each =
      subst (Carried world) (ok_one e)
      (carries world state (record state { memory = x.memory; frames = x.frame ∷ rest; notes = only x.stores }) carried refl (each x refl))
  row_placed (Err reason) e each = absurd (err_ok e)

  -- a node is begun
  pub begun : (n : ℕ) (items : List Item) → f.items ≡ Do n ∷ items → placed state rest (do_row (trees_of world) state.memory f n word) ≡ Ok next → Carried world next
  begun n items items_are e =
      row_placed (do_row (trees_of world) state.memory f n word) e (λ x is. begun_steady world state f rest n word items x runs carried.steady frames_are items_are is)

  -- a node goes on
  goes_on : (n : ℕ) (left : List ℕ) (values : List (ℕ × Value)) (items : List Item) → f.items ≡ Wait n left values ∷ items → placed state rest (wait_row (trees_of world) state.memory f n left values word) ≡ Ok next → Carried world next
  goes_on n left values items items_are e =
      row_placed (wait_row (trees_of world) state.memory f n left values word) e (λ x is. waits_steady world state f rest n word left values items x runs carried.steady frames_are items_are is)

  -- a call reaches a function
  module _ (n : ℕ) (values : List (ℕ × Value)) (items : List Item) (items_are : f.items ≡ Wait n [] values ∷ items) (node : Node) (there : slice_get (trees_of world).nodes n ≡ Some node) (kind : node.kind ≡ CallNode)
      (target : Target) (is_reached : reached (trees_of world) n values ≡ Ok target) where
    has : HasReached world state.memory n node values target
    has = reached_covered world runs.stands characters served state.memory n node values target there kind (own_items world state f rest carried.steady.covered frames_are (Wait n [] values) items items_are).0.2 is_reached

    abbrev IsOfCall : ObjectKey → Type 0
    IsOfCall key = called_type (key_type (trees_of world) key) ≡ call_type (trees_of world) node

    abbrev direct : Bool
    direct = is_direct (trees_of world) (slice_get (trees_of world).nodes n)

    -- with a body: it is entered
    enters : (g : ℕ) → target.key ≡ EntityKey g → (made : Activation) → entered (running_in world characters) (length state.memory) (record { function = g; call = Some n; by = None }) target.arguments ≡ Ok made
        → Carried world (on_top state (f ∷ rest) (noted (trees_of world) n (EntityKey g) made.stores) made)
    enters g key made is_entered =
        let is_target : IsTargetAt world n (EntityKey g) = subst (IsTargetAt world n) key has.is_target in
        carries world state (on_top state (f ∷ rest) (noted (trees_of world) n (EntityKey g) made.stores) made) carried refl
        (calls_steady world state f rest n node g values items (target_of direct n (EntityKey g)) characters made runs carried.steady frames_are items_are reaches
        (subst (λ (arguments : List Value). entered (running_in world characters) (length state.memory) (record { function = g; call = Some n; by = None }) arguments ≡ Ok made) has.arguments_are is_entered)
        (target_noted world direct n (EntityKey g) is_target))
      where
        reaches : Reaches world n node g
        reaches = record { there = there; kind = kind; target = subst (IsTargetAt world n) key has.is_target; fits = subst IsOfCall key has.type }

    -- of the library: the call waits for it
    pends : (k : ℕ) → target.key ≡ FunctionKey k
        → Carried world (record state { frames = record f { items = replaced 1 (Library n k target.arguments ∷ []) f.items } ∷ rest; notes = noted (trees_of world) n (FunctionKey k) [] })
    pends k key =
        subst (λ (list : List Item). Carried world (record state { frames = record f { items = list } ∷ rest; notes = noted (trees_of world) n (FunctionKey k) [] }))
        (sym (ap (replaced 1 (Library n k target.arguments ∷ [])) items_are))
        (carries world state (record state { frames = record f { items = Library n k target.arguments ∷ items } ∷ rest; notes = noted (trees_of world) n (FunctionKey k) [] }) carried refl
        (record {
          covered = steps_pended world runs.stands characters served state f rest n k node values items target (target_of direct n (FunctionKey k)) carried.steady.covered frames_are items_are there kind is_reached key
              (notes_target direct n (FunctionKey k));
          stacked = (
            pended_stacked (trees_of world).nodes (PendingOn world state.memory) n k [] values target.arguments items value (subst (Stacked (trees_of world).nodes (PendingOn world state.memory)) items_are stand.0)
                (λ waits. inl (waits, pending)),
            stand.1,
            stand.2,
          );
        }))
      where
        stand : FramesStand world state.memory (f ∷ rest)
        stand = subst (FramesStand world state.memory) frames_are carried.steady.stacked

        value : sort_of (kind_at (trees_of world).nodes n) ≡ ValueNode
        value = ap (λ (o : Option Node). sort_of (kind_in o)) there ∙ ap sort_of kind

        pending : IsPending world state.memory n k target.arguments
        pending = record { node = node; there = there; target = subst (IsTargetAt world n) key has.is_target; fits = subst IsOfCall key has.type; arguments_in = has.arguments_in; all = all_given (value_in values) (rest_of node.children) target.arguments has.arguments_are }

    reaches_by : (key : ObjectKey) → target.key ≡ key → called (running_in world characters) state f rest n key target.arguments ≡ Ok next → Carried world next
    reaches_by (EntityKey g) is e =
        let r =
        went (entered (running_in world characters) (length state.memory) (record { function = g; call = Some n; by = None }) target.arguments) (λ made. Ok (on_top state (f ∷ rest) (noted (trees_of world) n (EntityKey g) made.stores) made)) next e in
        subst (Carried world) (ok_one r.2) (enters g is r.0 r.1)
    reaches_by (FunctionKey k) is e = subst (Carried world) (ok_one e) (pends k is)
    reaches_by (TextKey m) is e = absurd (err_ok e)
    reaches_by (CallKey m) is e = absurd (err_ok e)
    reaches_by (LibraryKey m) is e = absurd (err_ok e)
    reaches_by (StarKey m) is e = absurd (err_ok e)
    reaches_by (VarargsKey m) is e = absurd (err_ok e)
    reaches_by OutsideKey is e = absurd (err_ok e)

  calling : (n : ℕ) (left : List ℕ) (values : List (ℕ × Value)) (items : List Item) → f.items ≡ Wait n left values ∷ items → IsCall (trees_of world) n left → call_row (running_in world characters) state f rest n values ≡ Ok next → Carried world next
  calling n left values items items_are c e =
      let r = went (reached (trees_of world) n values) (λ (target : Target). called (running_in world characters) state f rest n target.key target.arguments) next e in
      reaches_by n values items (items_are ∙ ap (λ (l : List ℕ). Wait n l values ∷ items) c.none) c.node c.there c.kind r.0 r.1 r.0.key refl r.2

  -- a node takes the next one of a list
  nexts : (n : ℕ) (left : List ℕ) (values : List (ℕ × Value)) (items : List Item) → f.items ≡ Wait n left values ∷ items → IsNext (trees_of world) n left → next_row (running_in world characters) state f rest n values ≡ Ok next → Carried world next
  unfolding next_row
  nexts n left values items items_are t e =
      let ends : f.items ≡ Wait n [] values ∷ items = items_are ∙ ap (λ (l : List ℕ). Wait n l values ∷ items) t.none in
      let r = went (taken_at (running_in world characters) state.memory (f ∷ rest) (slice_get (trees_of world).nodes n) values) (settled_so state f rest n) next e in
      let done = next_computed world characters runs.stands state.memory (f ∷ rest) n t.node values r.0 steady_memory t.there t.kind (own_items world state f rest carried.steady.covered frames_are (Wait n [] values) items ends).0.2 r.1 in
      subst (Carried world) (ok_one r.2)
      (carries world state (record state { memory = r.0.memory; frames = record f { items = settled n r.0.outcome.value f.items } ∷ rest; notes = only r.0.outcome.stores }) carried refl
      (settles_steady world runs state f rest carried.steady frames_are n word items t.node t.there values ends r.0 done (λ convert. next_convert (sym t.kind ∙ convert))))
    where
      steady_memory : MemoryIn (sets_of world) state.memory
      steady_memory = carried.steady.covered.memory

  -- a node goes on, calls, or takes the next one of a list
  pub waits : (n : ℕ) (left : List ℕ) (values : List (ℕ × Value)) (items : List Item) → f.items ≡ Wait n left values ∷ items → waited (running_in world characters) state f rest n left values word ≡ Ok next → Carried world next
  waits n left values items items_are e = by (calls (trees_of world) n left) refl e
    where
      takes_by : (b : Bool) → takes (trees_of world) n left ≡ b
          → (let r : Result State Reason = cond b (next_row (running_in world characters) state f rest n values) (placed state rest (wait_row (trees_of world) state.memory f n left values word)) in r) ≡ Ok next → Carried world next
      takes_by true is h = nexts n left values items items_are (next_here (trees_of world) n left is) h
      takes_by false is h = goes_on n left values items items_are h

      by : (b : Bool) → calls (trees_of world) n left ≡ b
          → (let r : Result State Reason = cond b (call_row (running_in world characters) state f rest n values) (cond (takes (trees_of world) n left) (next_row (running_in world characters) state f rest n values) (placed state rest (wait_row (trees_of world) state.memory f n left values word))) in r) ≡ Ok next → Carried world next
      by true is h = calling n left values items items_are (call_here (trees_of world) n left is) h
      by false is h = takes_by (takes (trees_of world) n left) refl h
