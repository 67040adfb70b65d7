-- The effect of a pending call leaves the state covered.
use Rattle.std.proofs.Common.{◌≡◌, ◌∙◌, ◌⊎◌, inl, inr, ℕ, suc, ◌+◌, ℤ, Bool, true, false, List, [], ◌∷◌, ◌++◌, length, Option, Some, None, Ok, slice_get, Contains, refl, sym, ap, subst}
use Rattle.std.specs.Prelude.{IsSome, unwrap_or}
use Rattle.std.specs.Option.{option_map}
use Rattle.pta_base.specs.declared.effect.Effect.{Effect as SetEffect}
use Rattle.pta_base.specs.declared.effect.Effect.TheVariants.{CallsBack}
use Rattle.c_types.specs.declared.key.ObjectKey.{ObjectKey}
use Rattle.c_types.specs.declared.key.ObjectKey.TheVariants.{Entity as EntityKey, Text as TextKey, Call as CallKey, Library as LibraryKey, Star as StarKey, Function as FunctionKey}
use Rattle.c_types.specs.declared.key.ObjectKey.TheVariants.{Varargs as VarargsKey, Outside as OutsideKey}
use Rattle.c_types.specs.declared.term.PathStep.TheVariants.{Index}
use Rattle.c_types.specs.declared.term.TypeId.{TypeId}
use Rattle.c_types.specs.Trees.{Ctype, VoidType, PointerTo}
use Rattle.c_types.specs.Table.{type_of}
use Rattle.type_rules.specs.Kinds.{IsScalar}
use Rattle.type_rules.specs.Conversions.{result_of}
use Rattle.core_tree.specs.declared.node.Entity.{Entity}
use Rattle.core_tree.specs.declared.node.NodeKind.TheVariants.{CallNode}
use Rattle.core_tree.specs.Typed.{type_in, type_at}
use Rattle.lib_summaries.specs.Table.{effects_of}
use Rattle.link_names.specs.Together.{is_listed}
use Rattle.sol_model.specs.declared.system.Function.{Function}
use Rattle.sol_model.specs.Rules.{back_signature, IsCalledBack}
use Rattle.sol_model.specs.Targets.{CallsBackIn}
use Rattle.normal_form.specs.Facts.{IsFunctionFact}
use Rattle.obj_space.specs.View.{first_from}
use Rattle.obj_space.proofs.Preorder.{get_behind}
use Rattle.row_numbers.specs.Functions.{number_at, key_id, type_or_void, key_type, parameters_of}
use Rattle.row_numbers.specs.Objects.{library_id}
use Rattle.row_numbers.specs.Setting.{takes_further}
use Rattle.call_sites.specs.Signatures.{comparison, ends, known, called_type}
use Rattle.call_sites.specs.Calls.{named_library, is_named}
use Rattle.ref_cells.specs.declared.cells.Cell.{Cell}
use Rattle.ref_cells.specs.declared.cells.Cell.TheVariants.{Unset, Number, Null, Pointer, Function as FunctionCell}
use Rattle.ref_cells.specs.declared.cells.Value.{Value}
use Rattle.ref_cells.specs.declared.instance.Instance.{Instance}
use Rattle.ref_mem.specs.Reads.{one_cell}
use Rattle.ref_elements.specs.declared.outcome.Next.{Next}
use Rattle.ref_elements.specs.declared.outcome.Next.TheVariants.{Done, Again, Calls, Keeps, Ends}
use Rattle.ref_elements.specs.Outcomes.{Effected, Effect}
use Rattle.ref_elements.specs.Arguments.{argument}
use Rattle.ref_lib.specs.declared.rows.Plain.TheVariants.{Keep}
use Rattle.ref_lib.specs.declared.rows.Row.{Row}
use Rattle.ref_lib.specs.declared.rows.Elements.TheVariants.{Sort, Find}
use Rattle.ref_lib.specs.declared.rows.Row.TheVariants.{Moves, Answers}
use Rattle.ref_lib.specs.Effects.{rows, effect}
use Rattle.ref_state.specs.declared.items.Item.{Item}
use Rattle.ref_state.specs.declared.items.Item.TheVariants.{Wait, Library}
use Rattle.ref_state.specs.declared.frames.Frame.{Frame}
use Rattle.ref_state.specs.declared.state.State.{State}
use Rattle.ref_state.specs.Items.{settled}
use Rattle.ref_frames.specs.Running.{element_type}
use Rattle.ref_frames.specs.declared.entering.Activation.{Activation}
use Rattle.ref_frames.specs.Frames.{parameter_object, parameter_objects, pointers_from, frame_over, activation, list_of, have_types, entered, all_ended, finished}
use Rattle.ref_frames.specs.OnTop.{only, on_top}
use Rattle.ref_calls.specs.Library.{result_in, term_in, object_of, performed_as, performed, comparison_of, back_by, kept_of, goes_by, with_top, library_row}
use Rattle.ref_calls.specs.Calls.{is_function, signature_of}
use Rattle.covering_laws.specs.covered_types.Whole.{IsFew, IsHeld}
use Rattle.covering_laws.specs.covered_memory.Covered.{Sets, CellIn, ValueIn, InstanceIn, Leaves}
use Rattle.covering_laws.specs.calm_effects.Calm.{IsCalm, LeavesCalm}
use Rattle.covering_laws.proofs.calm_effects.Calm.{effect_is_calm}
use Rattle.covering_laws.specs.covered_rows.Nodes.{HeldIn}
use Rattle.normal_form.specs.Assignments.{row_in}
use Rattle.covering_laws.proofs.covered_rows.Targets.{function_number, function_there}
use Rattle.covering_laws.specs.covered_library.Calls.{Calling, HasArgument, Backs, IsEffectIn}
use Rattle.covering_laws.specs.covered_library.Laws.{IsEffectOf, calling, MeetsNeeds}
use Rattle.covering_laws.proofs.covered_library.Calling.{effects_covered}
use Rattle.covering_laws.proofs.covered_library.Effects.{back_in, back_second_in, called_back}
use Rattle.covering_laws.proofs.covered_library.Table.{lists_of}
use Rattle.covering_laws.specs.covered_state.World.{World, trees_of, view_in, sets_of, setting_in, IsFunctionAt, IsTargetAt}
use Rattle.covering_laws.specs.covered_state.Items.{Each, NodeIn, AllExist, IsPending, IsPendingBack, ItemIn}
use Rattle.covering_laws.specs.covered_state.Awaited.{AreApart, ItemApart, IsBare, IsAwaited, AwaitedIn}
use Rattle.covering_laws.specs.covered_state.Exists.{ItemBelow, PointersExist}
use Rattle.covering_laws.specs.covered_state.State.{FrameIn, KeptIn, HandedIn, Covered}
use Rattle.covering_laws.proofs.covered_state.Stays.{each_append, back_stays, items_stay, frames_stay, handed_stay, settled_in}
use Rattle.covering_laws.proofs.covered_state.Exists.{cell_exists, covered_exist, cells_apart, items_apart, frames_apart}
use Rattle.covered_runs.specs.covered_steps.covered_values.Values.{Stands}
use Rattle.covered_runs.proofs.covered_steps.covered_values.Operands.{went, ok_one, err_ok, value_node}
use Rattle.covered_runs.specs.covered_steps.Steps.{NoneBare}
use Rattle.covered_runs.proofs.covered_steps.Made.{made_so, parameters_covered}
use Rattle.covered_runs.proofs.covered_steps.Frames.{steps_entered}
use Rattle.covered_runs.proofs.covered_steps.Steps.{own_frames, none_bare}
use Rattle.covered_runs.proofs.covered_steps.covered_calls.Activations.{some_one}
use Rattle.covered_runs.proofs.covered_steps.covered_calls.Entering.{fresh_stored}
use Rattle.covered_runs.specs.covered_steps.covered_effects.Traces.{MayCall, MayKeep, MayGo, IsGrown, Adds, IsTraced}
use Rattle.covered_runs.specs.covered_steps.covered_effects.Served.{solved, running_in, IsConverted, IsServed, Reaches}
use Rattle.covered_runs.specs.covered_steps.covered_effects.Steps.{ConversionWaits, IsKeptFound, StaysCovered, StepsEffected}
use Rattle.covered_runs.proofs.covered_steps.covered_effects.Traces.{effects_traced}
use Rattle.covered_runs.proofs.covered_steps.covered_effects.Told.{TakesPointer, Told, row_told, result_told}
use Rattle.covered_runs.proofs.covered_steps.covered_effects.Reaching.{landed}
use Rattle.covered_runs.proofs.covered_steps.covered_effects.Needs.{rows_below, of_call, fact, library_call, gives_type, shape, has_argument, needs_met, key_by}
use Rattle.covered_runs.proofs.covered_steps.covered_effects.Called.{some_none, call_kind, scalar_complete, bare_before, none_after, star_blob, contains_at, keep_number, keeps_done, calls_done, again_done, ends_done, kept_still, stores_stay, all_long, all_left, is_compared, compared_signature, two_keys, IsEnteredAs, entered_as, entered_plain, EffectGoes}

module _ (world : World) (stands : Stands world) (characters : TypeId) (served : IsServed world stands characters) (state : State) (f : Frame) (rest : List Frame) (n k : ℕ) (arguments : List Value) (items : List Item) (word : ℕ)
    (stays : StaysCovered world state) (frames_are : state.frames ≡ f ∷ rest) (items_are : f.items ≡ Library n k arguments ∷ items) (pending : IsPending world state.memory n k arguments) (waits : ConversionWaits world n items) where
  abbrev covered : Covered world state
  covered = stays.covered

  abbrev g : Sets
  g = sets_of world

  abbrev reaches : Reaches world n k
  reaches = record { node = pending.node; there = pending.there; kind = call_kind world pending.target.call n pending.node pending.target.call_is pending.there; target = pending.target; type = pending.fits }

  abbrev key : ObjectKey
  key = object_of (trees_of world) n k

  abbrev fixed : Option TypeId
  fixed = element_type (running_in world characters) key

  abbrev here : Calling
  here = calling (solved world stands) state.memory n pending.node pending.target.target.0 pending.target.function key fixed arguments

  -- the frames before
  frames_in : Each (FrameIn world state.memory) (f ∷ rest)
  frames_in = own_frames world state f rest covered frames_are

  wait_library : (m : ℕ) (values : List (ℕ × Value)) → Library n k arguments ≡ Wait m [] values → ⊥
  wait_library m values h = cc

  none_before : NoneBare world state.memory
  none_before = none_bare world state f rest covered frames_are (Library n k arguments) items items_are (λ m values node same there kind. wait_library m values same)

  module _ (e : Effected) (result : TypeId) (is : effect world.program.types state.memory k key fixed result arguments word ≡ Ok e) where
    traced : IsTraced state.memory k key arguments e
    traced = effects_traced world.program.types state.memory k key fixed result arguments word e is

    abbrev needs : MeetsNeeds here k
    needs = needs_met world stands characters served n k reaches state f rest arguments items covered.awaited frames_are items_are covered.memory pending.arguments_in

    own_effect : IsEffectOf here k needs e
    own_effect =
        effects_covered (solved world stands) n pending.node pending.target.target.0 pending.target.function pending.target.target.1 k state.memory key fixed result arguments word e
        (library_call world stands characters served n k reaches) covered.memory stands.few served.counted needs is

    effect_of : IsEffectIn g (setting_in world) n state.memory e
    effect_of = own_effect.effect_in

    leaves : Leaves g state.memory e.memory
    leaves = effect_of.leaves

    -- the type of what the call gives
    held : IsHeld world.program.types (type_at (trees_of world) n)
    held =
        let o = shape world stands characters served n k reaches (rows_below k traced.row traced.row_is) in
        by (result_told (key_type (trees_of world) (FunctionKey k)) o.row.shape o.shape o.listed)
      where
        by : (result_of (key_type (trees_of world) (FunctionKey k)) ≡ VoidType) ⊎ IsScalar (result_of (key_type (trees_of world) (FunctionKey k))) → IsHeld world.program.types (type_at (trees_of world) n)
        by (inl void) = inl (gives_type world stands characters served n k reaches ∙ void)
        by (inr scalar) =
            inr (record {
              complete = scalar_complete world.program.types (type_at (trees_of world) n) (subst IsScalar (sym (gives_type world stands characters served n k reaches)) scalar);
              few = subst (λ (t : Ctype). IsFew world.program.types t) (sym (ap (type_in world.program.types) pending.there)) (stands.few pending.node.ty.0);
            })

    value_in : NodeIn world e.memory n e.outcome.value
    value_in = value_node world e.memory n pending.node pending.there CallNode reaches.kind refl e.outcome.value effect_of.value (inr held)

    -- the items of the frame, and the frames below, beside the new memory
    items_in : Each (ItemIn world e.memory f.function) f.items
    items_in = items_stay world state.memory e.memory leaves.extends f.function f.items frames_in.0.items

    rest_in : Each (FrameIn world e.memory) rest
    rest_in = frames_stay world state.memory e.memory leaves.extends rest frames_in.1

    frame_with : (list : List Item) → Each (ItemIn world e.memory f.function) list → FrameIn world e.memory (record f { items = list })
    frame_with list h = record { called = frames_in.0.called; back = frames_in.0.back; items = h; entered = frames_in.0.entered }

    -- what was handed over
    handed_in : Each (HandedIn world e.memory) state.handed
    handed_in = handed_stay world state.memory e.memory leaves.extends state.handed covered.handed

    -- where the call goes on in another way than being done, no object waits for its type
    none_else : (e.outcome.next ≡ Done → ⊥) → NoneBare world e.memory
    none_else other = by traced.adds
      where
        by : Adds state.memory key e → NoneBare world e.memory
        by (inl long) = none_after world state.memory e.memory leaves.extends none_before long
        by (inr grown) = absurd (other grown.next)

    -- the call is done
    abbrev with_done : State
    with_done = with_top (record state { memory = e.memory }) (record f { items = settled n e.outcome.value f.items }) rest e.outcome.stores

    done_awaited : AwaitedIn world with_done
    done_awaited = record { each = λ i inst at bare. by traced.adds i inst at bare }
      where
        -- what points to something before the call points to nothing that the call made
        there : PointersExist state
        there = covered_exist world state covered

        frames_there : Each (λ f. Each (ItemBelow (length state.memory)) f.items) (f ∷ rest)
        frames_there = subst (Each (λ f. Each (ItemBelow (length state.memory)) f.items)) frames_are there.frames

        waiting : IsGrown state.memory key e → (i : ℕ) (inst : Instance) → i ≡ length state.memory → inst.key ≡ key → IsBare world inst → (b : Bool) → is_named (named_library (trees_of world) pending.node) k ≡ b
            → IsAwaited world i inst with_done.memory with_done.frames
        waiting grown i inst place own bare false named =
            let star : inst.key ≡ StarKey k = own ∙ key_by world stands characters served n k reaches state f rest arguments items covered.awaited frames_are items_are covered.memory pending.arguments_in false named in
            absurd (star_blob k bare.id (sym (served.star_contents k bare.first bare.location (ap (first_from 0 world.space) (sym star) ∙ bare.first_is) bare.location_is) ∙ bare.content_is))
        waiting grown i inst place own bare true named =
            let call : inst.key ≡ CallKey n = own ∙ key_by world stands characters served n k reaches state f rest arguments items covered.awaited frames_are items_are covered.memory pending.arguments_in true named in
            let c : IsConverted world n = served.conversions n bare.first bare.location bare.id (ap (first_from 0 world.space) (sym call) ∙ bare.first_is) bare.location_is bare.content_is in
            let below = waits c.at c.node c.there c.kind c.child in
            let value : e.outcome.value ≡ one_cell (Pointer i (Index 0 ∷ []) false) = grown.value ∙ ap (λ (m : ℕ). one_cell (Pointer m (Index 0 ∷ []) false)) (sym place) in
            record {
              top = record f { items = settled n e.outcome.value f.items };
              rest = rest;
              frames_are = refl;
              convert = c.at;
              call = n;
              items = below.0;
              items_are = ap (settled n e.outcome.value) (items_are ∙ ap (λ (l : List Item). Library n k arguments ∷ l) below.1) ∙ ap (λ (v : Value). Wait c.at [] ((n, v) ∷ []) ∷ below.0) value;
              node = c.node;
              there = c.there;
              kind = c.kind;
              child = c.child;
              key = call;
              others = subst (λ (m : ℕ). Each (ItemApart m) below.0) (sym place)
                  (items_apart (length state.memory) below.0 (subst (Each (ItemBelow (length state.memory))) (items_are ∙ ap (λ (l : List Item). Library n k arguments ∷ l) below.1) frames_there.0).1.1);
              below = subst (λ (m : ℕ). Each (λ f. Each (ItemApart m) f.items) rest) (sym place) (frames_apart (length state.memory) rest frames_there.1);
              apart = λ j other at.
                  subst (λ (m : ℕ). AreApart m other.cells) (sym place) (cells_apart (length state.memory) other.cells (grown.cells there.memory j other at));
            }

        by : Adds state.memory key e → (i : ℕ) (inst : Instance) → slice_get e.memory i ≡ Some inst → IsBare world inst → IsAwaited world i inst with_done.memory with_done.frames
        by (inl long) i inst at bare = absurd (none_after world state.memory e.memory leaves.extends none_before long i inst at bare)
        by (inr grown) i inst at bare = elim (grown.each i inst at) [
          | inl lt ↦ absurd (bare_before world state.memory e.memory leaves.extends none_before i inst at lt bare)
          | inr here ↦ waiting grown i inst here.0 here.1 bare (is_named (named_library (trees_of world) pending.node) k) refl
        ]

    done_so : StaysCovered world (with_top (record state { memory = e.memory }) (record f { items = settled n e.outcome.value f.items }) rest e.outcome.stores)
    done_so = record {
      covered = record {
        memory = leaves.covered;
        frames = (frame_with (settled n e.outcome.value f.items) (settled_in world e.memory f.function n e.outcome.value f.items value_in items_in), rest_in);
        kept = covered.kept;
        notes = record { target = tt; stores = effect_of.stores };
        awaited = done_awaited;
        handed = handed_in;
      };
      found = record { each = stays.found.each };
    }

    -- the call wants another turn
    again_so : (e.outcome.next ≡ Done → ⊥) → StaysCovered world (with_top (record state { memory = e.memory }) f rest e.outcome.stores)
    again_so other = record {
      covered = record {
        memory = leaves.covered;
        frames = (frame_with f.items items_in, rest_in);
        kept = covered.kept;
        notes = record { target = tt; stores = effect_of.stores };
        awaited = record { each = λ i inst at bare. absurd (none_else other i inst at bare) };
        handed = handed_in;
      };
      found = record { each = stays.found.each };
    }

    -- what the effect leaves of the memory where it calls back or keeps a function
    calm_by : (r : Effect) → r ≡ Ok e → LeavesCalm state.memory r → IsCalm state.memory e.memory e.outcome.next
    calm_by r same h = subst (LeavesCalm state.memory) same h

    calm : IsCalm state.memory e.memory e.outcome.next
    calm = calm_by (effect world.program.types state.memory k key fixed result arguments word) is (effect_is_calm world.program.types state.memory k key fixed result arguments word)

    listed : is_listed (key_type (trees_of world) (FunctionKey k)) ≡ true
    listed = (shape world stands characters served n k reaches (rows_below k traced.row traced.row_is)).listed

    argument_of : (i : ℕ) → TakesPointer (key_type (trees_of world) (FunctionKey k)) i → HasArgument here i
    argument_of i takes = has_argument world stands characters served n k reaches state f rest arguments items covered.awaited frames_are items_are covered.memory pending.arguments_in listed i takes

    told : (row : Row) → slice_get rows k ≡ Some row → Told row (key_type (trees_of world) (FunctionKey k))
    told row at = (let o = shape world stands characters served n k reaches (rows_below k row at) in row_told k row o.row (key_type (trees_of world) (FunctionKey k)) at o.row_is o.shape o.listed)

    own_fact : IsFunctionFact (trees_of world) (view_in world) pending.target.function (FunctionKey k) pending.target.target.1
    own_fact = fact world stands characters served n k reaches

    -- a function that an argument is
    record IsPassed (m : ℕ) (other : ObjectKey) : Type 0 where
      l : ℕ
      first : first_from 0 world.space other ≡ Some l
      back_of : (number : ℕ) (called : Function) (passed : Option (ℕ × ℕ)) → IsFunctionAt world number other → slice_get world.system.functions number ≡ Some called → called.signature ≡ back_signature passed
          → IsCalledBack world.system world.family pending.target.target.0 (suc m) passed number called

    passed_by : (m : ℕ) (other : ObjectKey) → argument arguments m ≡ FunctionCell other → HasArgument here m → IsPassed m other
    passed_by m other cell (a, t, at, type, own) =
        let held : HeldIn g (setting_in world) state.memory a (one_cell (FunctionCell other)) = subst (λ (c : Cell). HeldIn g (setting_in world) state.memory a (one_cell c)) cell own in
        let found = landed world _ other held.0 in
        record {
          l = found.0;
          first = found.1;
          back_of = λ number called passed function_at there_is agrees.
              let there = function_there world.program world.space world.system world.is_system number other function_at in
              let same : there.0 ≡ called = some_one (sym there.1 ∙ there_is) in
              let location : called.location ≡ found.0 = ap (λ (x : Function). x.location) (sym same) ∙ (there.2.location ∙ ap (λ (o : Option ℕ). unwrap_or o 0) found.1) in
              called_back world.program world.space world.system world.is_system world.family stands.closed stands.grounds pending.target.call n pending.node pending.target.target.0 pending.target.target.2
              (of_call world stands characters served n k reaches) pending.target.function pending.target.target.1 pending.target.target.3 k own_fact.library m a t at type state.memory other held number called there_is
              (found.1 ∙ ap (λ (i : ℕ). Some i) (sym location)) passed agrees;
        }

    -- a function that the library's function calls back
    edge_of : (m number : ℕ) (called : Function) (passed : Option (ℕ × ℕ)) → Contains (effects_of k) (CallsBack (suc m) passed) → IsCalledBack world.system world.family pending.target.target.0 (suc m) passed number called
        → CallsBackIn world.system world.family pending.target.function number
    edge_of m number called passed has back = (
      pending.target.target.0,
      pending.target.target.1,
      called,
      suc m,
      passed,
      contains_at world.system.calls pending.target.call pending.target.target.0 pending.target.target.2,
      pending.target.target.3,
      subst IsSome (sym own_fact.library) refl,
      subst (λ (list : List SetEffect). Contains list (CallsBack (suc m) passed)) (sym own_fact.effects) has,
      back,
    )

    -- a function is kept
    kept_in : (other : ObjectKey) → argument arguments 0 ≡ FunctionCell other → slice_get rows k ≡ Some (Answers Keep) → KeptIn world other n × IsKeptFound world other
    kept_in other cell at =
        let number : k ≡ 24 = keep_number k at in
        let p = passed_by 0 other cell (argument_of 0 (told (Answers Keep) at)) in (
          record {
            target = subst (λ (m : ℕ). IsTargetAt world n (FunctionKey m)) number pending.target;
            called = λ back called back_is there_is signature. record {
              caller = pending.target.function;
              caller_is = subst (λ (m : ℕ). IsFunctionAt world pending.target.function (FunctionKey m)) number pending.target.function_is;
              callee = back;
              callee_is = back_is;
              edge = inr (edge_of 0 back called None (lists_of k (Answers Keep) at) (p.back_of back called None back_is there_is signature));
            };
          },
          record {
            l = p.l;
            first = p.first;
            library = pending.target.function;
            library_is = subst (λ (m : ℕ). IsFunctionAt world pending.target.function (FunctionKey m)) number pending.target.function_is;
            calls = λ back called back_is there_is signature. edge_of 0 back called None (lists_of k (Answers Keep) at) (p.back_of back called None back_is there_is signature);
          },
        )

    keeps_so : (cell : Cell) → e.outcome.next ≡ Keeps cell → (row : Row) → slice_get rows k ≡ Some row → MayKeep row arguments cell
        → StaysCovered world (with_top (record (record state { memory = e.memory }) { kept = state.kept ++ kept_of cell n }) (record f { items = settled n e.outcome.value f.items }) rest e.outcome.stores)
    keeps_so cell next row at may = record {
      covered = record {
        memory = leaves.covered;
        frames = (frame_with (settled n e.outcome.value f.items) (settled_in world e.memory f.function n e.outcome.value f.items value_in items_in), rest_in);
        kept = each_append (λ entry. KeptIn world entry.0 entry.1) state.kept (kept_of cell n) covered.kept (both cell (row_keeps row at may)).0;
        notes = record { target = tt; stores = effect_of.stores };
        awaited = record { each = λ i inst there bare. absurd (none_else (λ done. keeps_done (sym next ∙ done)) i inst there bare) };
        handed = handed_in;
      };
      found = record { each = each_append (λ entry. IsKeptFound world entry.0) state.kept (kept_of cell n) stays.found.each (both cell (row_keeps row at may)).1 };
    }
      where
        row_keeps : (row : Row) → slice_get rows k ≡ Some row → MayKeep row arguments cell → (slice_get rows k ≡ Some (Answers Keep)) × (cell ≡ argument arguments 0)
        row_keeps (Answers Keep) at may = (at, may)
        row_keeps row at may = absurd may

        both : (c : Cell) → (slice_get rows k ≡ Some (Answers Keep)) × (c ≡ argument arguments 0) → Each (λ entry. KeptIn world entry.0 entry.1) (kept_of c n) × Each (λ entry. IsKeptFound world entry.0) (kept_of c n)
        both (FunctionCell other) h = (let r = kept_in other (sym h.1) h.0 in ((r.0, tt), (r.1, tt)))
        both Null h = (tt, tt)
        both Unset h = (tt, tt)
        both (Number m) h = (tt, tt)
        both (Pointer i path past) h = (tt, tt)

    -- the program ends
    ends_so : (status : ℤ) (at_once : Bool) → e.outcome.next ≡ Ends status at_once
        → StaysCovered world (record (finished (with_top (record state { memory = e.memory }) f rest e.outcome.stores) status at_once) { notes = only e.outcome.stores })
    ends_so status at_once next =
        let ended = all_left world (f ∷ rest) e.memory stands leaves.covered in
        record {
          covered = record {
            memory = ended.covered;
            frames = tt;
            kept = kept_still (λ entry. KeptIn world entry.0 entry.1) state.kept at_once covered.kept;
            notes = record { target = tt; stores = stores_stay g e.memory (all_ended e.memory (f ∷ rest)) ended.extends e.outcome.stores effect_of.stores };
            awaited = record {
              each = λ i inst there bare. absurd (none_after world e.memory (all_ended e.memory (f ∷ rest)) ended.extends (none_else (λ done. ends_done (sym next ∙ done))) (all_long (f ∷ rest) e.memory) i inst there bare);
            };
            handed = handed_stay world e.memory (all_ended e.memory (f ∷ rest)) ended.extends state.handed handed_in;
          };
          found = record { each = kept_still (λ entry. IsKeptFound world entry.0) state.kept at_once stays.found.each };
        }

    -- what is called back, and with what
    record IsBack (callee : Cell) (given : List Value) : Type 0 where
      m : ℕ
      i : ℕ
      j : ℕ
      lists : Contains (effects_of k) (CallsBack (suc m) (Some (suc i, suc j)))
      callee_is : callee ≡ argument arguments m
      compare : HasArgument here m
      left : HasArgument here i
      right : HasArgument here j
      a : Cell
      b : Cell
      given_is : given ≡ one_cell a ∷ one_cell b ∷ []
      a_in : CellIn g state.memory (Some (row_in (setting_in world) left.0)) a
      b_in : CellIn g state.memory (Some (row_in (setting_in world) right.0)) b

    backs_so : (callee : Cell) (given : List Value) (row : Row) (row_is : slice_get rows k ≡ Some row) → MayCall row → Backs here row (needs row row_is) (Calls callee given) → IsBack callee given
    backs_so callee given (Moves Sort) row_is may b = record {
      m = 3;
      i = 0;
      j = 0;
      lists = lists_of k (Moves Sort) row_is;
      callee_is = b.0;
      compare = argument_of 3 (told (Moves Sort) row_is).1;
      left = needs (Moves Sort) row_is;
      right = needs (Moves Sort) row_is;
      a = b.1;
      b = b.2;
      given_is = b.3;
      a_in = b.4;
      b_in = b.5;
    }
    backs_so callee given (Moves Find) row_is may b = record {
      m = 4;
      i = 0;
      j = 1;
      lists = (lists_of k (Moves Find) row_is).0;
      callee_is = b.0;
      compare = argument_of 4 (told (Moves Find) row_is).3;
      left = (needs (Moves Find) row_is).1;
      right = (needs (Moves Find) row_is).2;
      a = b.1;
      b = b.2;
      given_is = b.3;
      a_in = b.4;
      b_in = b.5;
    }
    backs_so callee given row row_is may b = absurd may

    called_with : (callee : Cell) (given : List Value) → e.outcome.next ≡ Calls callee given → IsBack callee given
    called_with callee given next =
        let row_same : traced.row ≡ own_effect.row = some_one (sym traced.row_is ∙ own_effect.row_is) in
        backs_so callee given own_effect.row own_effect.row_is
        (subst MayCall row_same (subst (MayGo traced.row arguments) next traced.goes))
        (subst (λ (x : Next). Backs here own_effect.row (needs own_effect.row own_effect.row_is) x) next own_effect.backs)

    -- the function that is called back, and the edge from the library's function to it
    record IsCompared (callee : Cell) (given : List Value) (asked : IsBack callee given) (other : ObjectKey) : Type 0 where
      number : ℕ
      called : Function
      function_at : IsFunctionAt world number other
      known : slice_get world.system.functions number ≡ Some called
      called_fact : IsFunctionFact (trees_of world) (view_in world) number other called
      is_back : IsCalledBack world.system world.family pending.target.target.0 (suc asked.m) (Some (suc asked.i, suc asked.j)) number called
      edge : CallsBackIn world.system world.family pending.target.function number

    compared : (callee : Cell) (given : List Value) (back : IsBack callee given) (other : ObjectKey) → callee ≡ FunctionCell other → signature_of (trees_of world) other ≡ comparison → IsCompared callee given back other
    compared callee given back other cell signature =
        let p = passed_by back.m other (sym back.callee_is ∙ cell) back.compare in
        let listed_key = served.functions other p.l p.first (ap is_function signature) in
        let number = number_at (trees_of world) (view_in world) p.l in
        let at = function_number (trees_of world) world.space p.l other listed_key p.first in
        let f' = function_there world.program world.space world.system world.is_system number other at in
        let zero_is : f'.0.signature ≡ 0 = compared_signature world.program.types (called_type (key_type (trees_of world) other)) f'.0.signature signature f'.2.signature in
        let is_back = p.back_of number f'.0 (Some (suc back.i, suc back.j)) at f'.1 zero_is in
        record {
          number = number;
          called = f'.0;
          function_at = at;
          known = f'.1;
          called_fact = f'.2;
          is_back = is_back;
          edge = edge_of back.m number f'.0 (Some (suc back.i, suc back.j)) back.lists is_back;
        }

    -- a library function that is called back
    back_so : (callee : Cell) (given : List Value) (other : ℕ) → e.outcome.next ≡ Calls callee given → comparison_of (trees_of world) callee ≡ Ok (FunctionKey other) → IsPendingBack world state.memory n other given
    back_so callee given other next is_comparison =
        let two = is_compared (trees_of world) callee (FunctionKey other) is_comparison in
        let with : IsBack callee given = called_with callee given next in
        let c = compared callee given with (FunctionKey other) two.0 two.1 in
        record {
          library = pending.target.function;
          back = c.number;
          called = record { caller = FunctionKey k; library_is = pending.target.function_is; target = pending.target; back_is = c.function_at; edge = c.edge };
          exist = subst (AllExist world state.memory) (sym with.given_is)
              ((cell_exists world state.memory (Some (row_in (setting_in world) with.left.0)) with.a with.a_in, tt), ((cell_exists world state.memory (Some (row_in (setting_in world) with.right.0)) with.b with.b_in, tt), tt));
        }

    library_so : (callee : Cell) (given : List Value) → e.outcome.next ≡ Calls callee given → (other : ℕ) → comparison_of (trees_of world) callee ≡ Ok (FunctionKey other)
        → StaysCovered world (record (record state { memory = e.memory }) { frames = record f { items = Library n other given ∷ f.items } ∷ rest; notes = only [] })
    library_so callee given next other is_comparison =
        record {
          covered = record {
            memory = leaves.covered;
            frames = (
              frame_with (Library n other given ∷ f.items) (inr (back_stays world state.memory e.memory leaves.extends n other given (back_so callee given other next is_comparison)), items_in),
              rest_in,
            );
            kept = covered.kept;
            notes = record { target = tt; stores = tt };
            awaited = record { each = λ i inst there bare. absurd (none_else (λ done. calls_done (sym next ∙ done)) i inst there bare) };
            handed = handed_in;
          };
          found = record { each = stays.found.each };
        }

    -- an object of a parameter, with what it is called with
    parameter_in : (function i : ℕ) (key : ObjectKey) (c : Cell) → slice_get (parameters_of (trees_of world) (view_in world) function) i ≡ Some key → key_type (trees_of world) key ≡ PointerTo VoidType
        → ((l : ℕ) → first_from 0 world.space key ≡ Some l → ValueIn g state.memory (λ z. l + z) (PointerTo VoidType) (one_cell c))
        → InstanceIn g state.memory (parameter_object (trees_of world) key (one_cell c)) × ((parameter_object (trees_of world) key (one_cell c)).ty ≡ None → ⊥)
    parameter_in function i key c at type held =
        let (x, key_is, place) = served.parameters function i key at in
        let id : key_id (trees_of world) key ≡ Some place.entity.ty = ap (key_id (trees_of world)) key_is ∙ ap (option_map (λ (y : Entity). y.ty)) place.entity_is in
        let own : type_of world.program.types place.entity.ty.0 ≡ PointerTo VoidType = sym (ap (type_or_void world.program.types) id) ∙ type in (
          subst (λ (o : ObjectKey). InstanceIn g state.memory (parameter_object (trees_of world) o (one_cell c))) (sym key_is)
              (parameters_covered world state.memory x (one_cell c) place
              (subst (λ (t : Ctype). ValueIn g state.memory (λ z. place.first + z) t (one_cell c)) (sym own) (held place.first (ap (first_from 0 world.space) key_is ∙ place.first_is)))),
          λ none. some_none (sym id ∙ none),
        )

    body_at : (callee : Cell) (given : List Value) → e.outcome.next ≡ Calls callee given → (other : ℕ) → comparison_of (trees_of world) callee ≡ Ok (EntityKey other) → (made : Activation)
        → entered (running_in world characters) (length state.memory) (record { function = other; call = None; by = Some k }) given ≡ Ok made → Covered world (on_top state (f ∷ rest) (only made.stores) made)
    body_at callee given next other is_comparison made is_entered =
        by made (entered_plain (running_in world characters) (length state.memory) (record { function = other; call = None; by = Some k }) given made x (ap takes_further own_type))
      where
        two : (callee ≡ FunctionCell (EntityKey other)) × (signature_of (trees_of world) (EntityKey other) ≡ comparison)
        two = is_compared (trees_of world) callee (EntityKey other) is_comparison

        back : IsBack callee given
        back = called_with callee given next

        c : IsCompared callee given back (EntityKey other)
        c = compared callee given back (EntityKey other) two.0 two.1

        x : IsEnteredAs (running_in world characters) (length state.memory) (record { function = other; call = None; by = Some k }) given made
        x = entered_as (running_in world characters) (length state.memory) (record { function = other; call = None; by = Some k }) given made is_entered

        own_type : called_type (type_of world.program.types x.entity.ty.0) ≡ comparison
        own_type = ap (λ (o : Option Entity). called_type (type_or_void world.program.types (option_map (λ (y : Entity). y.ty) o))) (sym x.there) ∙ two.1

        keys : (a : ObjectKey) × (b : ObjectKey) × (parameters_of (trees_of world) (view_in world) other ≡ a ∷ b ∷ []) × (key_type (trees_of world) a ≡ PointerTo VoidType) × (key_type (trees_of world) b ≡ PointerTo VoidType)
        keys =
            two_keys (trees_of world) (parameters_of (trees_of world) (view_in world) other) (PointerTo VoidType) (PointerTo VoidType)
            (ap (λ (t : Ctype). have_types (trees_of world) (parameters_of (trees_of world) (view_in world) other) (list_of t)) (sym own_type) ∙ x.types)

        first_at : slice_get (parameters_of (trees_of world) (view_in world) other) 0 ≡ Some keys.0
        first_at = ap (λ (l : List ObjectKey). slice_get l 0) keys.2

        second_at : slice_get (parameters_of (trees_of world) (view_in world) other) 1 ≡ Some keys.1
        second_at = ap (λ (l : List ObjectKey). slice_get l 1) keys.2

        one : InstanceIn g state.memory (parameter_object (trees_of world) keys.0 (one_cell back.a)) × ((parameter_object (trees_of world) keys.0 (one_cell back.a)).ty ≡ None → ⊥)
        one =
            parameter_in other 0 keys.0 back.a first_at keys.3
            (λ l first.
            back_in world.program world.space world.system world.is_system world.family stands.closed stands.grounds pending.target.call n pending.node pending.target.target.0 pending.target.target.2
            (of_call world stands characters served n k reaches) pending.target.function pending.target.target.1 pending.target.target.3 k own_fact.library back.m back.i back.j c.number other back.left.0 l c.called keys.0 VoidType back.left.1
            (subst (λ (list : List SetEffect). Contains list (CallsBack (suc back.m) (Some (suc back.i, suc back.j)))) (sym own_fact.effects) back.lists) c.is_back c.called_fact.library c.called_fact.parameters
            back.left.2 back.left.3 first_at keys.3 first state.memory back.a back.a_in)

        other_one : InstanceIn g state.memory (parameter_object (trees_of world) keys.1 (one_cell back.b)) × ((parameter_object (trees_of world) keys.1 (one_cell back.b)).ty ≡ None → ⊥)
        other_one =
            parameter_in other 1 keys.1 back.b second_at keys.4
            (λ l first.
            back_second_in world.program world.space world.system world.is_system world.family stands.closed stands.grounds pending.target.call n pending.node pending.target.target.0 pending.target.target.2
            (of_call world stands characters served n k reaches) pending.target.function pending.target.target.1 pending.target.target.3 k own_fact.library back.m back.i back.j c.number other back.right.0 l c.called keys.1 VoidType back.right.1
            (subst (λ (list : List SetEffect). Contains list (CallsBack (suc back.m) (Some (suc back.i, suc back.j)))) (sym own_fact.effects) back.lists) c.is_back c.called_fact.library c.called_fact.parameters
            back.right.2 back.right.3 second_at keys.4 first state.memory back.b back.b_in)

        fresh_is : (parameter_objects (trees_of world) (parameters_of (trees_of world) (view_in world) other) given) ≡ parameter_object (trees_of world) keys.0 (one_cell back.a) ∷ parameter_object (trees_of world) keys.1 (one_cell back.b) ∷ []
        fresh_is = ap (λ (l : List ObjectKey). parameter_objects (trees_of world) l given) keys.2 ∙ ap (λ (l : List Value). parameter_objects (trees_of world) (keys.0 ∷ keys.1 ∷ []) l) back.given_is

        fresh_in : Each (InstanceIn g state.memory) (parameter_objects (trees_of world) (parameters_of (trees_of world) (view_in world) other) given)
        fresh_in = subst (Each (InstanceIn g state.memory)) (sym fresh_is) (one.0, (other_one.0, tt))

        fresh_bare : Each (λ inst. IsBare world inst → ⊥) (parameter_objects (trees_of world) (parameters_of (trees_of world) (view_in world) other) given)
        fresh_bare = subst (Each (λ inst. IsBare world inst → ⊥)) (sym fresh_is) ((λ b. one.1 b.untyped), ((λ b. other_one.1 b.untyped), tt))

        more : Leaves g state.memory (state.memory ++ (parameter_objects (trees_of world) (parameters_of (trees_of world) (view_in world) other) given))
        more = made_so g state.memory (parameter_objects (trees_of world) (parameters_of (trees_of world) (view_in world) other) given) covered.memory fresh_in

        by : (made : Activation) → activation (record { function = other; call = None; by = Some k }) (length state.memory) x.body (parameter_objects (trees_of world) (parameters_of (trees_of world) (view_in world) other) given) ≡ made → Covered world (on_top state (f ∷ rest) (only made.stores) made)
        by made is =
            subst (λ (m : Activation). Covered world (on_top state (f ∷ rest) (only m.stores) m)) is
            (steps_entered world state f rest (Library n k arguments) items (parameter_objects (trees_of world) (parameters_of (trees_of world) (view_in world) other) given) (frame_over (record { function = other; call = None; by = Some k }) (length state.memory) x.body (parameter_objects (trees_of world) (parameters_of (trees_of world) (view_in world) other) given))
            (only (pointers_from (length state.memory) (parameter_objects (trees_of world) (parameters_of (trees_of world) (view_in world) other) given))) covered frames_are items_are (λ m values node same there kind. wait_library m values same) fresh_in fresh_bare
            (record {
              called = tt;
              back = record { caller = pending.target.function; caller_is = pending.target.function_is; callee = c.number; callee_is = c.function_at; edge = inr c.edge };
              items = (served.bodies other x.entity x.body x.there x.body_is (ap is_function two.1), tt);
              entered = tt;
            })
            (record {
              target = tt;
              stores = fresh_stored world stands state.memory (parameter_objects (trees_of world) (parameters_of (trees_of world) (view_in world) other) given) more.extends (length state.memory) (parameter_objects (trees_of world) (parameters_of (trees_of world) (view_in world) other) given) (λ j y at. get_behind state.memory (parameter_objects (trees_of world) (parameters_of (trees_of world) (view_in world) other) given) (length state.memory + j) j refl ∙ at) fresh_in;
            }))

    body_so : (callee : Cell) (given : List Value) → e.outcome.next ≡ Calls callee given → (other : ℕ) → comparison_of (trees_of world) callee ≡ Ok (EntityKey other) → (made : Activation)
        → entered (running_in world characters) (length e.memory) (record { function = other; call = None; by = Some k }) given ≡ Ok made → StaysCovered world (on_top (record state { memory = e.memory }) (f ∷ rest) (only made.stores) made)
    body_so callee given next other is_comparison made is_entered =
        let same : e.memory ≡ state.memory = subst (λ (x : Next). IsCalm state.memory e.memory x) next calm in
        record {
          covered = subst
              (λ (m : List Instance). entered (running_in world characters) (length m) (record { function = other; call = None; by = Some k }) given ≡ Ok made → Covered world (on_top (record state { memory = m }) (f ∷ rest) (only made.stores) made))
              (sym same) (body_at callee given next other is_comparison made) is_entered;
          found = record { each = stays.found.each };
        }

    -- however the call goes on
    goes_so : (next : Next) → e.outcome.next ≡ next → (after : State)
        → goes_by (running_in world characters) (record state { memory = e.memory }) f rest n k e.outcome.value e.outcome.stores next ≡ Ok after → StaysCovered world after
    goes_so Done is after h = subst (StaysCovered world) (ok_one h) done_so
    goes_so Again is after h = subst (StaysCovered world) (ok_one h) (again_so (λ done. again_done (sym is ∙ done)))
    goes_so (Keeps cell) is after h = subst (StaysCovered world) (ok_one h) (keeps_so cell is traced.row traced.row_is (subst (MayGo traced.row arguments) is traced.goes))
    goes_so (Ends status at_once) is after h = subst (StaysCovered world) (ok_one h) (ends_so status at_once is)
    goes_so (Calls callee given) is after h =
        let r = went (comparison_of (trees_of world) callee) (λ other. back_by (running_in world characters) (record state { memory = e.memory }) f rest n k given other) after h in
        by r.0 r.1 r.2
      where
        by : (other : ObjectKey) → comparison_of (trees_of world) callee ≡ Ok other → back_by (running_in world characters) (record state { memory = e.memory }) f rest n k given other ≡ Ok after → StaysCovered world after
        by (FunctionKey other) is_comparison g' = subst (StaysCovered world) (ok_one g') (library_so callee given is other is_comparison)
        by (EntityKey other) is_comparison g' =
            let r = went (entered (running_in world characters) (length e.memory) (record { function = other; call = None; by = Some k }) given) (λ made. Ok (on_top (record state { memory = e.memory }) (f ∷ rest) (only made.stores) made)) after g' in
            subst (StaysCovered world) (ok_one r.2) (body_so callee given is other is_comparison r.0 r.1)
        by (TextKey m) is_comparison g' = absurd (err_ok g')
        by (CallKey m) is_comparison g' = absurd (err_ok g')
        by (LibraryKey m) is_comparison g' = absurd (err_ok g')
        by (StarKey m) is_comparison g' = absurd (err_ok g')
        by (VarargsKey m) is_comparison g' = absurd (err_ok g')
        by OutsideKey is_comparison g' = absurd (err_ok g')

  performed_so : (e : Effected) → performed (running_in world characters) state.memory n k arguments word ≡ Ok e → (result : TypeId) × (effect world.program.types state.memory k key fixed result arguments word ≡ Ok e)
  unfolding performed
  performed_so e is = by (result_in (term_in (trees_of world) (library_id k (trees_of world).entities))) is
    where
      by : (o : Option TypeId) → performed_as (running_in world characters) state.memory n k arguments word o ≡ Ok e → (result : TypeId) × (effect world.program.types state.memory k key fixed result arguments word ≡ Ok e)
      by (Some result) g = (result, g)
      by None g = absurd (err_ok g)

  -- what the effect leaves
  pub effect_goes : (e : Effected) → performed (running_in world characters) state.memory n k arguments word ≡ Ok e → EffectGoes world state.memory n e
  effect_goes e is = (let p = performed_so e is in record { leaves = leaves e p.0 p.1; back = back_so e p.0 p.1 })

  effected_so : (next : State) → library_row (running_in world characters) state f rest n k arguments word ≡ Ok next → StaysCovered world next
  unfolding library_row
  effected_so next is =
      let r =
      went (performed (running_in world characters) state.memory n k arguments word) (λ e. goes_by (running_in world characters) (record state { memory = e.memory }) f rest n k e.outcome.value e.outcome.stores e.outcome.next) next is in
      let p = performed_so r.0 r.1 in
      goes_so r.0 p.0 p.1 r.0.outcome.next refl next r.2

pub steps_effected : StepsEffected
steps_effected world stands characters served state f rest n k arguments items word next stays frames_are items_are pending waits is =
    effected_so world stands characters served state f rest n k arguments items word stays frames_are items_are pending waits next is
