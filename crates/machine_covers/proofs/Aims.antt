-- What stands among a call's targets, in the call graph and under a call by its number does so as the invariant of steps says it.
use Rattle.std.proofs.Common.{arith, ◌≡◌, ◌∙◌, ◌⊎◌, inl, inr, ℕ, ◌+◌, ◌<◌, List, [], ◌∷◌, Option, Some, None, All, IsSome, Contains, eqb, get_or, length, slice_get, refl, sym, ap, subst}
use Rattle.std.proofs.lemmas.Bool.Decides.{eqb_tells}
use Rattle.std.proofs.lemmas.Option.{slice_get-get_or, slice_get_within, get_or_from_slice_get}
use Rattle.pta_base.specs.declared.effect.Effect.{Effect}
use Rattle.pta_base.specs.declared.effect.Effect.TheVariants.{CallsBack}
use Rattle.c_types.specs.declared.key.ObjectKey.{ObjectKey}
use Rattle.c_types.specs.declared.key.ObjectKey.TheVariants.{Function as FunctionKey}
use Rattle.sol_model.specs.declared.system.CallSite.{CallSite}
use Rattle.sol_model.specs.declared.system.Function.{Function}
use Rattle.sol_model.specs.Families.{Family, Has}
use Rattle.sol_model.specs.Rules.{IsTarget}
use Rattle.sol_model.specs.Systems.{IsValid}
use Rattle.sol_model.specs.Targets.{IsTargetOf, CallsBackIn}
use Rattle.covering_laws.specs.covered_state.World.{World, trees_of, IsFunctionAt, IsTargetAt}
use Rattle.covering_laws.specs.covered_state.Items.{IsCalledBackAt}
use Rattle.covering_laws.specs.covered_state.State.{IsInGraph, BackIn, KeptIn, TargetNoted}
use Rattle.machine_covers.specs.Covers.{EntersBy}
use Rattle.machine_covers.specs.Frames.{function_of, TargetAt, GraphAt, BackAt, CalledBy, UnderBy, EndBy, EndAt, KeptBy, NotedBy}
use Rattle.machine_covers.specs.Whole.{sight_in}
use Rattle.machine_covers.proofs.Numbers.{number_from, number_to, key_there}
use Rattle.machine_covers.proofs.Counted.{number_of_call, call_of_number}
use Rattle.row_covers.specs.Edges.{TakesBack, EffectTakes, IsBackBy, IsBackOf}
use Rattle.row_covers.specs.Targets.{call_number, TargetBy, GraphBy, BackOf, BackBy}

some_one : {X : Type 0} → {x y : X} → ◌≡◌ {A = Option X} (Some x) (Some y) → x ≡ y
some_one h = cc

there : {X : Type 0} (xs : List X) (x : X) → (c : Contains xs x) → slice_get xs c.0 ≡ Some x
there xs x (k, lt, same) = slice_get-get_or xs k x lt ∙ ap (λ (y : _). Some y) same

listed : {X : Type 0} (xs : List X) (k : ℕ) (x : X) → slice_get xs k ≡ Some x → Contains xs x
listed xs k x e = (k, slice_get_within xs k x e, get_or_from_slice_get xs k x x e)

-- the effect that calls a function back
record Taken (F : Family) (call : CallSite) (back library : Function) : Type 0 where
  k : ℕ
  passed : Option (ℕ × ℕ)
  has : Contains library.effects (CallsBack k passed)
  takes : TakesBack F call back k passed

taken : (F : Family) (call : CallSite) (back library : Function) (effect : Effect) → Contains library.effects effect → EffectTakes F call back effect → Taken F call back library
taken F call back library (CallsBack k passed) c h = record { k = k; passed = passed; has = c; takes = h }
taken F call back library effect c h = absurd h

module _ (world : World) (valid : IsValid world.system) where
  abbrev calls : ℕ → Option ℕ
  calls n = call_number (trees_of world).nodes n

  abbrev functions : ObjectKey → Option ℕ
  functions key = function_of (sight_in world) key

  abbrev F : Family
  F = world.family

  -- targets
  pub target_to : (n : ℕ) (key : ObjectKey) → TargetAt (sight_in world) n key → IsTargetAt world n key
  target_to n key h = by (calls n) (functions key) refl refl h
    where
      by : (c f : Option ℕ) → calls n ≡ c → functions key ≡ f → TargetBy world.system F c f → IsTargetAt world n key
      by None f e g h = absurd h
      by (Some c) None e g h = absurd h
      by (Some c) (Some f) e g h = record {
        call = c;
        call_is = call_of_number (trees_of world).nodes c n e;
        function = f;
        function_is = number_to world valid f key g;
        target = h;
      }

  pub target_from : (n : ℕ) (key : ObjectKey) → IsTargetAt world n key → TargetAt (sight_in world) n key
  target_from n key t =
      subst (λ (c : Option ℕ). TargetBy world.system F c (functions key)) (sym (number_of_call (trees_of world).nodes t.call n t.call_is))
      (subst (λ (f : Option ℕ). TargetBy world.system F (Some t.call) f) (sym (number_from world valid t.function key t.function_is)) t.target)

  -- the call graph
  pub graph_to : (library : ℕ) (key : ObjectKey) → GraphAt (sight_in world) library key → IsInGraph world library key
  graph_to library key h = by (functions (FunctionKey library)) (functions key) refl refl h
    where
      by : (c f : Option ℕ) → functions (FunctionKey library) ≡ c → functions key ≡ f → GraphBy world.system F c f → IsInGraph world library key
      by None f e g h = absurd h
      by (Some c) None e g h = absurd h
      by (Some c) (Some f) e g h = record {
        caller = c;
        caller_is = number_to world valid c (FunctionKey library) e;
        callee = f;
        callee_is = number_to world valid f key g;
        edge = h;
      }

  pub graph_from : (library : ℕ) (key : ObjectKey) → IsInGraph world library key → GraphAt (sight_in world) library key
  graph_from library key t =
      subst (λ (c : Option ℕ). GraphBy world.system F c (functions key)) (sym (number_from world valid t.caller (FunctionKey library) t.caller_is))
      (subst (λ (f : Option ℕ). GraphBy world.system F (Some t.caller) f) (sym (number_from world valid t.callee key t.callee_is)) t.edge)

  -- what is called back
  pub record Called (n : ℕ) (key : ObjectKey) : Type 0 where
    pub library : ℕ
    pub back : ℕ
    pub is : IsCalledBackAt world n library back key

  back_known : (n c b : ℕ) (key : ObjectKey) (site : CallSite) (back : Function) → calls n ≡ Some c → functions key ≡ Some b → slice_get world.system.calls c ≡ Some site → slice_get world.system.functions b ≡ Some back → IsBackOf world.system F site back
      → Called n key
  back_known n c b key site back e g site_is back_is (library, among, ((has, agrees), (call, among_calls, (known, (reaches, of_call), (effect, effects, takes))))) =
      let at = there world.system.functions library among in
      let caller = key_there world valid among.0 library at in
      let t = taken F call back library effect effects takes in
      let row = t.takes in
      record {
        library = among.0;
        back = b;
        is = record {
          caller = caller.0;
          library_is = caller.1;
          target = record {
            call = c;
            call_is = call_of_number (trees_of world).nodes c n e;
            function = among.0;
            function_is = caller.1;
            target = (site, library, site_is, record { known = at; reached = has; agrees = agrees });
          };
          back_is = number_to world valid b key g;
          edge = (
            call,
            library,
            back,
            t.k,
            t.passed,
            among_calls,
            record { known = at; reached = reaches; agrees = of_call },
            known,
            t.has,
            record { known = back_is; reached = (row.0, row.1, row.2); agrees = row.3 },
          );
        };
      }

  pub back_to : (n : ℕ) (key : ObjectKey) → BackAt (sight_in world) n key → Called n key
  back_to n key h = by (calls n) (functions key) refl refl h
    where
      sited : (c b : ℕ) (s : Option CallSite) (f : Option Function) → calls n ≡ Some c → functions key ≡ Some b → slice_get world.system.calls c ≡ s → slice_get world.system.functions b ≡ f → BackOf world.system F s f → Called n key
      sited c b None f e g i j h = absurd h
      sited c b (Some site) None e g i j h = absurd h
      sited c b (Some site) (Some back) e g i j h = back_known n c b key site back e g i j h

      by : (c f : Option ℕ) → calls n ≡ c → functions key ≡ f → BackBy world.system F c f → Called n key
      by None f e g h = absurd h
      by (Some c) None e g h = absurd h
      by (Some c) (Some b) e g h = sited c b (slice_get world.system.calls c) (slice_get world.system.functions b) e g refl refl h

  same_number : (a b : ℕ) (key : ObjectKey) → IsFunctionAt world a key → IsFunctionAt world b key → a ≡ b
  same_number a b key x y = some_one (sym (number_from world valid a key x) ∙ number_from world valid b key y)

  back_of : (library b t : ℕ) (site : CallSite) (other : Function) → t ≡ library → IsTarget world.system F site t other → CallsBackIn world.system F library b → (called : Function) × (slice_get world.system.functions b ≡ Some called) × IsBackOf world.system F site called
  back_of library b t site other same aim (call, function, called, k, passed, among_calls, target, known, effects, back) =
      let one : other ≡ function = some_one (sym aim.known ∙ (ap (slice_get world.system.functions) same ∙ target.known)) in
      let reached : Has F site.callee function.location = subst (λ (f : Function). Has F site.callee f.location) one aim.reached in
      let agrees : function.signature ≡ site.signature = subst (λ (f : Function). f.signature ≡ site.signature) one aim.agrees in (
        called,
        back.known,
        (
          function,
          listed world.system.functions library function target.known,
          (
            (reached, agrees),
            (call, among_calls, (known, (target.reached, target.agrees), (CallsBack k passed, effects, (back.reached.0, back.reached.1, back.reached.2, back.agrees)))),
          ),
        ),
      )

  pub back_from : (n library back : ℕ) (key : ObjectKey) → IsCalledBackAt world n library back key → BackAt (sight_in world) n key
  back_from n library back key h =
      let t = h.target in
      let aim = t.target in
      let o = back_of library back t.function aim.0 aim.1 (same_number t.function library h.caller t.function_is h.library_is) aim.3 h.edge in
      subst (λ (c : Option ℕ). BackBy world.system F c (functions key)) (sym (number_of_call (trees_of world).nodes t.call n t.call_is))
      (subst (λ (f : Option ℕ). BackBy world.system F (Some t.call) f) (sym (number_from world valid back key h.back_is))
      (subst (λ (s : Option CallSite). BackOf world.system F s (slice_get world.system.functions back)) (sym aim.2)
      (subst (λ (f : Option Function). BackOf world.system F (Some aim.0) f) (sym o.1) o.2)))

  -- frames, kept functions and notes
  pub called_to : (key : ObjectKey) (call : Option ℕ) → CalledBy (sight_in world) key call → EntersBy world key call
  called_to key None h = tt
  called_to key (Some n) h = target_to n key h

  pub called_from : (key : ObjectKey) (call : Option ℕ) → EntersBy world key call → CalledBy (sight_in world) key call
  called_from key None h = tt
  called_from key (Some n) h = target_from n key h

  pub under_to : (key : ObjectKey) (by : Option ℕ) → UnderBy (sight_in world) key by → BackIn world key by
  under_to key None h = tt
  under_to key (Some n) h = graph_to n key h

  pub under_from : (key : ObjectKey) (by : Option ℕ) → BackIn world key by → UnderBy (sight_in world) key by
  under_from key None h = tt
  under_from key (Some n) h = graph_from n key h

  pub noted_to : (note : Option (ℕ × ObjectKey)) → NotedBy (sight_in world) note → TargetNoted world note
  noted_to None h = tt
  noted_to (Some note) h = target_to note.0 note.1 h

  pub noted_from : (note : Option (ℕ × ObjectKey)) → TargetNoted world note → NotedBy (sight_in world) note
  noted_from None h = tt
  noted_from (Some note) h = target_from note.0 note.1 h

  end_to : (key : ObjectKey) (function : Function) → EndBy (sight_in world) key (Some function) → function.signature ≡ 1 → IsInGraph world 24 key
  end_to key function (inl other) is = absurd (other is)
  end_to key function (inr g) is = graph_to 24 key g

  pub kept_to : (entry : ObjectKey × ℕ) → KeptBy (sight_in world) entry → KeptIn world entry.0 entry.1
  kept_to entry h = record {
    target = target_to entry.1 (FunctionKey 24) h.0;
    called = λ number function at is.
        end_to entry.0 function
        (subst (λ (f : Option Function). EndBy (sight_in world) entry.0 f) is
        (subst (λ (o : Option ℕ). EndAt (sight_in world) entry.0 o) (number_from world valid number entry.0 at) h.1));
  }

  pub kept_from : (entry : ObjectKey × ℕ) → KeptIn world entry.0 entry.1 → KeptBy (sight_in world) entry
  kept_from entry h = (target_from entry.1 (FunctionKey 24) h.target, at (functions entry.0) refl)
    where
      ends : (number : ℕ) (f : Option Function) → functions entry.0 ≡ Some number → slice_get world.system.functions number ≡ f → EndBy (sight_in world) entry.0 f
      ends number None e g = tt
      ends number (Some f) e g = elim (eqb_tells f.signature 1) [
        | inl same ↦ inr (graph_from 24 entry.0 (h.called number f (number_to world valid number entry.0 e) g same.1))
        | inr other ↦ inl other.1
      ]

      at : (o : Option ℕ) → functions entry.0 ≡ o → EndAt (sight_in world) entry.0 o
      at None e = tt
      at (Some number) e = ends number (slice_get world.system.functions number) e refl
