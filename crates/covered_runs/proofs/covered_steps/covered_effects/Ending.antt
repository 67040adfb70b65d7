-- At the program's end the functions that are kept are called.
use Rattle.std.proofs.Common.{◌≡◌, ◌∙◌, inr, ℕ, zero, suc, ◌-◌, Bool, true, false, cond, List, [], ◌∷◌, ◌++◌, length, take, append-nil, Option, Some, Result, Ok, Err, slice_get, refl, sym, ap, subst}
use Rattle.std.specs.Option.{option_map}
use Rattle.c_types.specs.declared.key.ObjectKey.{ObjectKey}
use Rattle.c_types.specs.declared.key.ObjectKey.TheVariants.{Entity as EntityKey, Text as TextKey, Call as CallKey, Library as LibraryKey, Star as StarKey, Function as FunctionKey}
use Rattle.c_types.specs.declared.key.ObjectKey.TheVariants.{Varargs as VarargsKey, Outside as OutsideKey}
use Rattle.c_types.specs.declared.term.TypeId.{TypeId}
use Rattle.c_types.specs.Trees.{Ctype}
use Rattle.c_types.specs.Table.{Table}
use Rattle.core_tree.specs.declared.node.Entity.{Entity}
use Rattle.core_tree.specs.Typed.{CoreTrees}
use Rattle.sol_model.specs.Targets.{CallsBackIn}
use Rattle.row_numbers.specs.Functions.{number_at, type_or_void, key_type, parameters_of}
use Rattle.row_numbers.specs.Setting.{takes_further}
use Rattle.call_sites.specs.Signatures.{comparison, at_end, IsSignature, compares, ends, known, unknown, called_type}
use Rattle.ref_cells.specs.declared.cells.Reason.{Reason}
use Rattle.ref_cells.specs.declared.cells.Reason.TheVariants.{BadCall}
use Rattle.ref_cells.specs.declared.instance.Instance.{Instance}
use Rattle.ref_elements.specs.Types.{same_type}
use Rattle.ref_elements.proofs.SameTypes.{type_true}
use Rattle.ref_state.specs.declared.frames.Frame.{Frame}
use Rattle.ref_state.specs.declared.state.State.{State}
use Rattle.ref_frames.specs.declared.entering.Activation.{Activation}
use Rattle.ref_frames.specs.Frames.{parameter_objects, activation, entered}
use Rattle.ref_frames.specs.OnTop.{only, on_top}
use Rattle.ref_calls.specs.Calls.{is_function, signature_of}
use Rattle.ref_calls.specs.Ending.{entry_of, but_last, last_of, pending_frame, kept_entered, kept_called}
use Rattle.covering_laws.specs.covered_memory.Covered.{MemoryIn}
use Rattle.covering_laws.proofs.covered_rows.Targets.{function_number, function_there}
use Rattle.covering_laws.specs.covered_state.World.{World, trees_of, view_in, sets_of, IsFunctionAt}
use Rattle.covering_laws.specs.covered_state.Items.{Each, IsPendingBack}
use Rattle.covering_laws.specs.covered_state.State.{at_exit, IsInGraph, FrameIn, KeptIn, HandedIn, Covered}
use Rattle.covered_runs.specs.covered_steps.covered_values.Values.{Stands}
use Rattle.covered_runs.proofs.covered_steps.covered_values.Operands.{went, ok_one, err_ok}
use Rattle.covered_runs.specs.covered_steps.Steps.{NoneBare}
use Rattle.covered_runs.proofs.covered_steps.Steps.{each_at}
use Rattle.covered_runs.specs.covered_steps.covered_effects.Served.{running_in, IsServed}
use Rattle.covered_runs.specs.covered_steps.covered_effects.Steps.{IsKeptFound, StaysCovered, StepsKept}
use Rattle.covered_runs.proofs.covered_steps.covered_effects.Called.{entered_as, entered_plain}

nil_cons : {x : Frame} → {xs : List Frame} → ◌≡◌ {A = List Frame} [] (x ∷ xs) → ⊥
nil_cons h = cc

each_taken : {X : Type 0} (P : X → Type 0) (k : ℕ) (xs : List X) → Each P xs → Each P (take k xs)
each_taken P zero xs h = tt
each_taken P (suc k) [] h = tt
each_taken P (suc k) (x ∷ xs) h = (h.0, each_taken P k xs h.1)

ended_signature : (table : Table) (t : Ctype) (signature : ℕ) → t ≡ at_end → IsSignature table t signature → signature ≡ 1
ended_signature table t signature is (ends x i) = i
ended_signature table t signature is (compares x i) = absurd (let same : at_end ≡ comparison = sym is ∙ x in let no : ⊥ = cc in no)
ended_signature table t signature is (known o f i) = absurd (o.not_at_end is)
ended_signature table t signature is (unknown o f i) = absurd (o.not_at_end is)

no_objects : (u : CoreTrees) (keys : List ObjectKey) → parameter_objects u keys [] ≡ []
no_objects u [] = refl
no_objects u (key ∷ keys) = refl

module _ (world : World) (stands : Stands world) (characters : TypeId) (served : IsServed world stands characters) (state : State) (key : ObjectKey) (n : ℕ) (next : State) (stays : StaysCovered world state) (frames_are : state.frames ≡ [])
    (last : last_of state.kept ≡ Some (key, n)) where
  abbrev covered : Covered world state
  covered = stays.covered

  kept : KeptIn world key n
  kept = each_at (λ (entry : ObjectKey × ℕ). KeptIn world entry.0 entry.1) state.kept (length state.kept - 1) (key, n) last covered.kept

  found : IsKeptFound world key
  found = each_at (λ (entry : ObjectKey × ℕ). IsKeptFound world entry.0) state.kept (length state.kept - 1) (key, n) last stays.found.each

  none : NoneBare world state.memory
  none i inst at bare = nil_cons (sym frames_are ∙ (covered.awaited.each i inst at bare).frames_are)

  -- the function that is called
  record IsCalled : Type 0 where
    number : ℕ
    number_is : IsFunctionAt world number key
    graph : IsInGraph world at_exit key
    edge : CallsBackIn world.system world.family found.library number

  called : signature_of (trees_of world) key ≡ at_end → IsCalled
  called signature =
      let listed = served.functions key found.l found.first (ap is_function signature) in
      let number = number_at (trees_of world) (view_in world) found.l in
      let at = function_number (trees_of world) world.space found.l key listed found.first in
      let f = function_there world.program world.space world.system world.is_system number key at in
      let one : f.0.signature ≡ 1 = ended_signature world.program.types (called_type (key_type (trees_of world) key)) f.0.signature signature f.2.signature in
      record { number = number; number_is = at; graph = kept.called number f.0 at f.1 one; edge = found.calls number f.0 at f.1 one }

  fewer_kept : Each (λ (entry : ObjectKey × ℕ). KeptIn world entry.0 entry.1) (but_last state.kept)
  fewer_kept = each_taken (λ (entry : ObjectKey × ℕ). KeptIn world entry.0 entry.1) (length state.kept - 1) state.kept covered.kept

  fewer_found : Each (λ (entry : ObjectKey × ℕ). IsKeptFound world entry.0) (but_last state.kept)
  fewer_found = each_taken (λ (entry : ObjectKey × ℕ). IsKeptFound world entry.0) (length state.kept - 1) state.kept stays.found.each

  -- a library function that is called
  back_so : (k : ℕ) → key ≡ FunctionKey k → IsCalled → IsPendingBack world state.memory n k []
  back_so k is c =
      let back_is : IsFunctionAt world c.number (FunctionKey k) = subst (IsFunctionAt world c.number) is c.number_is in
      record { library = found.library; back = c.number; called = record { caller = FunctionKey at_exit; library_is = found.library_is; target = kept.target; back_is = back_is; edge = c.edge }; exist = tt }

  library_so : (k : ℕ) → key ≡ FunctionKey k → IsCalled → StaysCovered world (record (record state { kept = but_last state.kept }) { frames = pending_frame k n ∷ state.frames; notes = only [] })
  library_so k is c =
      record {
        covered = record {
          memory = covered.memory;
          frames = (
            record {
              called = tt;
              back = subst (IsInGraph world at_exit) is c.graph;
              items = (inr (back_so k is c), tt);
              entered = tt;
            },
            covered.frames,
          );
          kept = fewer_kept;
          notes = record { target = tt; stores = tt };
          awaited = record { each = λ i inst at bare. absurd (none i inst at bare) };
          handed = covered.handed;
        };
        found = record { each = fewer_found };
      }

  body_so : (e : ℕ) → key ≡ EntityKey e → signature_of (trees_of world) key ≡ at_end → IsCalled → (made : Activation) → entered (running_in world characters) (length state.memory) (entry_of e (Some 24)) [] ≡ Ok made
      → StaysCovered world (on_top (record state { kept = but_last state.kept }) state.frames (only []) made)
  body_so e is signature c made is_entered =
      let x = entered_as (running_in world characters) (length state.memory) (entry_of e (Some 24)) [] made is_entered in
      subst (λ (m : Activation). StaysCovered world (on_top (record state { kept = but_last state.kept }) state.frames (only []) m))
      (entered_plain (running_in world characters) (length state.memory) (entry_of e (Some 24)) [] made x
      (ap takes_further (ap (λ (o : Option Entity). called_type (type_or_void world.program.types (option_map (λ (y : Entity). y.ty) o))) (sym x.there) ∙ (sym (ap (signature_of (trees_of world)) is) ∙ signature))))
      (subst (λ (fresh : List Instance). StaysCovered world (on_top (record state { kept = but_last state.kept }) state.frames (only []) (activation (entry_of e (Some 24)) (length state.memory) x.body fresh)))
      (sym (no_objects (trees_of world) (parameters_of (trees_of world) (view_in world) e)))
      (record {
        covered = record {
          memory = subst (MemoryIn (sets_of world)) (sym (append-nil state.memory)) covered.memory;
          frames = (
            record {
              called = tt;
              back = subst (IsInGraph world at_exit) is c.graph;
              items = (served.bodies e x.entity x.body x.there x.body_is (ap is_function (sym (ap (signature_of (trees_of world)) is) ∙ signature)), tt);
              entered = tt;
            },
            subst (λ (frames : List Frame). Each (FrameIn world (state.memory ++ [])) frames) (sym frames_are) tt,
          );
          kept = fewer_kept;
          notes = record { target = tt; stores = tt };
          awaited = record { each = λ i inst at bare. absurd (none i inst (subst (λ (m : List Instance). slice_get m i ≡ Some inst) (append-nil state.memory) at) bare) };
          handed = subst (λ (m : List Instance). Each (HandedIn world m) state.handed) (sym (append-nil state.memory)) covered.handed;
        };
        found = record { each = fewer_found };
      }))

  entered_so : signature_of (trees_of world) key ≡ at_end → (own : ObjectKey) → key ≡ own → kept_entered (running_in world characters) (record state { kept = but_last state.kept }) own n ≡ Ok next → StaysCovered world next
  entered_so signature (EntityKey e) is h =
      let r =
      went (entered (running_in world characters) (length state.memory) (entry_of e (Some 24)) []) (λ made. Ok (on_top (record state { kept = but_last state.kept }) state.frames (only []) made)) next h in
      subst (StaysCovered world) (ok_one r.2) (body_so e is signature (called signature) r.0 r.1)
  entered_so signature (FunctionKey k) is h = subst (StaysCovered world) (ok_one h) (library_so k is (called signature))
  entered_so signature (TextKey m) is h = absurd (err_ok h)
  entered_so signature (CallKey m) is h = absurd (err_ok h)
  entered_so signature (LibraryKey m) is h = absurd (err_ok h)
  entered_so signature (StarKey m) is h = absurd (err_ok h)
  entered_so signature (VarargsKey m) is h = absurd (err_ok h)
  entered_so signature OutsideKey is h = absurd (err_ok h)

  called_so : (b : Bool) → same_type (signature_of (trees_of world) key) at_end ≡ b
      → (let r : Result State Reason = cond b (kept_entered (running_in world characters) (record state { kept = but_last state.kept }) key n) (Err BadCall) in r) ≡ Ok next → StaysCovered world next
  called_so true is h = entered_so (type_true (signature_of (trees_of world) key) at_end is) key refl h
  called_so false is h = absurd (err_ok h)

  pended_by : (b : Bool) → same_type (signature_of (trees_of world) key) at_end ≡ b
      → (let r : Result State Reason = cond b (kept_entered (running_in world characters) (record state { kept = but_last state.kept }) key n) (Err BadCall) in r) ≡ Ok next → (k : ℕ) → key ≡ FunctionKey k → IsPendingBack world state.memory n k []
  pended_by true is h k own = back_so k own (called (type_true (signature_of (trees_of world) key) at_end is))
  pended_by false is h k own = absurd (err_ok h)

  -- a library function that was kept last is pending
  pub kept_pended : kept_called (running_in world characters) state key n ≡ Ok next → (k : ℕ) → key ≡ FunctionKey k → IsPendingBack world state.memory n k []
  kept_pended h = pended_by (same_type (signature_of (trees_of world) key) at_end) refl h

pub steps_kept : StepsKept
steps_kept world stands characters served state key n next stays frames_are last h =
    called_so world stands characters served state key n next stays frames_are last (same_type (signature_of (trees_of world) key) at_end) refl h
