-- The call graphs of systems that are one.
use Rattle.std.proofs.Common.{◌≡◌, ℕ, zero, suc, List, [], ◌∷◌, map, Contains, Option, Some, None, slice_get, option_and_then, sym, ◌∙◌, ap, subst, inl, inr}
use Rattle.std.proofs.lemmas.Option.{none-some, same_Some}
use Rattle.std.specs.Prelude.{IsSome}
use Rattle.pta_base.specs.declared.effect.Effect.{Effect}
use Rattle.pta_base.specs.declared.effect.Effect.TheVariants.{CallsBack}
use Rattle.sol_model.specs.declared.system.System.{System}
use Rattle.sol_model.specs.declared.system.CallSite.{CallSite}
use Rattle.sol_model.specs.declared.system.Function.{Function}
use Rattle.sol_model.specs.Families.{Family, Has}
use Rattle.sol_model.specs.Rules.{IsTarget, IsCalledBack, first_row, argument_row, back_signature}
use Rattle.sol_model.specs.Solutions.{IsLeast}
use Rattle.sol_model.specs.Systems.{IsValid}
use Rattle.sol_model.specs.Targets.{IsGraphEdge}
use Rattle.sol_model.proofs.Members.{at_Contains, Contains-at}
use Rattle.twin_report_laws.specs.systems.Systems.{SameCall, SameFunction}
use Rattle.twin_report_laws.specs.reports.Same.{AreOneSystem}
use Rattle.twin_report_laws.proofs.reports.Over.{IsCallOver, call_over, function_over, agree_over, has_over}

first_there : (f : ℕ → ℕ) (rows : List ℕ) (row : ℕ) → first_row rows ≡ Some row → first_row (map f rows) ≡ Some (f row)
first_there f [] row h = absurd (none-some _ h)
first_there f (x ∷ rows) row h = ap Some (ap f (same_Some _ _ h))

place_there : (f : ℕ → ℕ) (lists : List (List ℕ)) (k row : ℕ) → option_and_then first_row (slice_get lists k) ≡ Some row → option_and_then first_row (slice_get (map (map f) lists) k) ≡ Some (f row)
place_there f [] k row h = absurd (none-some _ h)
place_there f (rows ∷ lists) zero row h = first_there f rows row h
place_there f (rows ∷ lists) (suc k) row h = place_there f lists k row h

module _ (one other : System) (o : AreOneSystem one other) (F G : Family) (valid : IsValid one) (other_valid : IsValid other) (f : IsLeast one F) (g : IsLeast other G) where
  argument_there : (x y : CallSite) (k row : ℕ) → SameCall o.to x y → argument_row x k ≡ Some row → argument_row y k ≡ Some (o.to.row row)
  argument_there x y zero row same h = absurd (none-some _ h)
  argument_there x y (suc k) row same h =
      subst (λ (lists : List (List ℕ)). option_and_then first_row (slice_get lists k) ≡ Some (o.to.row row)) (sym same.arguments) (place_there o.to.row x.arguments k row h)

  pub target_over : (n : ℕ) (x y : CallSite) → slice_get one.calls n ≡ Some x → IsCallOver one other o.to n x y → (number : ℕ) (a : Function) → IsTarget one F x number a
      → (b : Function) × IsTarget other G y number b × SameFunction o.to a b
  target_over n x y at over number a t =
      let (b, function) = function_over one other o number a valid t.known in
      let has = has_over one other o F G valid other_valid f g x.callee a.location t.reached in (
        b,
        record {
          known = function.there;
          reached = subst (λ (row : ℕ). Has G row b.location) (sym over.same.callee) (subst (λ (l : ℕ). Has G (o.to.row x.callee) l) (sym function.location) has);
          agrees = agree_over one other o n number x y a b at over.there t.known function.there t.agrees;
        },
        function.same,
      )

  back_signature_over : (passed : Option (ℕ × ℕ)) (a b : Function) → SameFunction o.to a b → a.signature ≡ back_signature passed → b.signature ≡ back_signature passed
  back_signature_over None a b same h = same.ends h
  back_signature_over (Some pair) a b same h = same.compares h

  back_over : (x y : CallSite) → SameCall o.to x y → (k : ℕ) (passed : Option (ℕ × ℕ)) (number : ℕ) (a : Function) → IsCalledBack one F x k passed number a → (b : Function) × IsCalledBack other G y k passed number b
  back_over x y same k passed number a t =
      let (b, function) = function_over one other o number a valid t.known in
      let has = has_over one other o F G valid other_valid f g t.reached.0 a.location t.reached.2 in (
        b,
        record {
          known = function.there;
          reached = (o.to.row t.reached.0, argument_there x y k t.reached.0 same t.reached.1, subst (λ (l : ℕ). Has G (o.to.row t.reached.0) l) (sym function.location) has);
          agrees = back_signature_over passed a b function.same t.agrees;
        },
      )

  pub edge_over : (caller callee : ℕ) → IsGraphEdge one F caller callee → IsGraphEdge other G caller callee
  edge_over caller callee (inl (number, x, at, is, (z, a, at_z, target))) =
      let (y, over) = call_over one other o number x at in
      let (w, again) = call_over one other o number z at_z in
      let (b, other_target, same) = target_over number z w at_z again callee a target in
      inl (o.to.call number, y, over.there, over.site.caller ∙ is, (w, b, again.there, other_target))
  edge_over caller callee (inr (x, a, called, k, passed, of, target, library, effect, calls_back)) =
      let (number, lt, at) = at_Contains one.calls x of in
      let (y, over) = call_over one other o number x at in
      let (b, other_target, same) = target_over number x y at over caller a target in
      let (other_called, other_back) = back_over x y over.same k passed callee called calls_back in
      inr (
        y,
        b,
        other_called,
        k,
        passed,
        Contains-at other.calls (o.to.call number) y over.there,
        other_target,
        subst (λ (found : Option ℕ). IsSome found) (sym same.library) library,
        subst (λ (effects : List Effect). Contains effects (CallsBack k passed)) (sym same.effects) effect,
        other_back,
      )
