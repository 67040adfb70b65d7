-- Calls of the reduced system have the same targets, and its call graph the same edges.
use Rattle.std.proofs.Common.{◌≡◌, ◌↔◌, ℕ, List, Option, IsSome, Contains, sym, ◌∙◌, ap, subst, inl, inr}
use Rattle.pta_base.specs.declared.effect.Effect.TheVariants.{CallsBack}
use Rattle.sol_model.specs.declared.system.System.{System}
use Rattle.sol_model.specs.declared.system.CallSite.{CallSite}
use Rattle.sol_model.specs.declared.system.Function.{Function}
use Rattle.sol_model.specs.Families.{Family, Has}
use Rattle.sol_model.specs.Rules.{IsTarget, IsCalledBack}
use Rattle.sol_model.specs.Targets.{IsTargetOf, CallsBackIn, IsGraphEdge}
use Rattle.sol_model.proofs.Members.{Contains-map}
use Rattle.row_share.specs.share_laws.Renumbering.{renumbered_call, renumbered_function}
use Rattle.row_share.proofs.share_laws.Parts.{map_Contains}
use Rattle.row_share.proofs.share_laws.Forward.{IsRenumbered, over, known_call, known_function, call_back, function_back, argument_forward, argument_back}

module _ (S T : System) (new : ℕ → ℕ) (is : IsRenumbered S T new) (G : Family) where
  target_forward : (call : CallSite) (number : ℕ) (function : Function) → IsTarget S (over G new) call number function → IsTarget T G (renumbered_call new call) number (renumbered_function new function)
  target_forward call number function t = record { known = known_function S T new is number function t.known; reached = t.reached; agrees = t.agrees }

  -- the function that the target of a new call stems from
  target_back : (call : CallSite) (number : ℕ) (function' : Function) → IsTarget T G (renumbered_call new call) number function' → (function : Function) × (function' ≡ renumbered_function new function) × IsTarget S (over G new) call number function
  target_back call number function' t =
      let f = function_back S T new is number function' t.known in (
        f.0,
        f.2,
        record {
          known = f.1;
          reached = subst (λ (g : Function). Has G (new call.callee) g.location) f.2 t.reached;
          agrees = ap (λ (g : Function). g.signature) (sym f.2) ∙ t.agrees;
        },
      )

  pub same_targets : (number target : ℕ) → IsTargetOf T G number target ↔ IsTargetOf S (over G new) number target
  same_targets number target = (
    λ h. (let c = call_back S T new is number h.0 h.2 in
        let t = target_back c.0 target h.1 (subst (λ (call : CallSite). IsTarget T G call target h.1) c.2 h.3) in
        (c.0, t.0, c.1, t.2)),
    λ h. (renumbered_call new h.0, renumbered_function new h.1, known_call S T new is number h.0 h.2, target_forward h.0 target h.1 h.3),
  )

  called_forward : (call : CallSite) (k : ℕ) (passed : Option (ℕ × ℕ)) (back : ℕ) (called : Function) → IsCalledBack S (over G new) call k passed back called → IsCalledBack T G (renumbered_call new call) k passed back (renumbered_function new called)
  called_forward call k passed back called t = record {
    known = known_function S T new is back called t.known;
    reached = (new t.reached.0, argument_forward S T new is call k t.reached.0 t.reached.1, t.reached.2);
    agrees = t.agrees;
  }

  called_back : (call : CallSite) (k : ℕ) (passed : Option (ℕ × ℕ)) (back : ℕ) (called' : Function) → IsCalledBack T G (renumbered_call new call) k passed back called' → (called : Function) × IsCalledBack S (over G new) call k passed back called
  called_back call k passed back called' t =
      let f = function_back S T new is back called' t.known in
      let row = argument_back S T new is call k t.reached.0 t.reached.1 in (
        f.0,
        record {
          known = f.1;
          reached = (row.0, row.1, subst (λ (r : ℕ). Has G r f.0.location) row.2 (subst (λ (g : Function). Has G t.reached.0 g.location) f.2 t.reached.2));
          agrees = ap (λ (g : Function). g.signature) (sym f.2) ∙ t.agrees;
        },
      )

  backs_forward : (library back : ℕ) → CallsBackIn S (over G new) library back → CallsBackIn T G library back
  backs_forward library back h = (
    renumbered_call new h.0,
    renumbered_function new h.1,
    renumbered_function new h.2,
    h.3,
    h.4,
    subst (λ (calls : List CallSite). Contains calls (renumbered_call new h.0)) (sym is.calls) (map_Contains (renumbered_call new) S.calls h.0 h.5),
    target_forward h.0 library h.1 h.6,
    h.7,
    h.8,
    called_forward h.0 h.3 h.4 back h.2 h.9,
  )

  backs_back : (library back : ℕ) → CallsBackIn T G library back → CallsBackIn S (over G new) library back
  backs_back library back h =
      let c = Contains-map (renumbered_call new) S.calls h.0 (subst (λ (calls : List CallSite). Contains calls h.0) is.calls h.5) in
      let t = target_back c.0 library h.1 (subst (λ (call : CallSite). IsTarget T G call library h.1) c.2 h.6) in
      let b = called_back c.0 h.3 h.4 back h.2 (subst (λ (call : CallSite). IsCalledBack T G call h.3 h.4 back h.2) c.2 h.9) in
      (c.0, t.0, b.0, h.3, h.4, c.1, t.2, subst (λ (g : Function). IsSome g.library) t.1 h.7, subst (λ (g : Function). Contains g.effects (CallsBack h.3 h.4)) t.1 h.8, b.1)

  pub same_graph : (caller callee : ℕ) → IsGraphEdge T G caller callee ↔ IsGraphEdge S (over G new) caller callee
  same_graph caller callee = (
    λ h. elim h [
      | inl call ↦ (let c = call_back S T new is call.0 call.1 call.2 in
          inl (call.0, c.0, c.1, ap (λ (site : CallSite). site.caller) (sym c.2) ∙ call.3, (same_targets call.0 callee).0 call.4))
      | inr back ↦ inr (backs_back caller callee back)
    ],
    λ h. elim h [
      | inl call ↦ inl (call.0, renumbered_call new call.1, known_call S T new is call.0 call.1 call.2, call.3, (same_targets call.0 callee).1 call.4)
      | inr back ↦ inr (backs_forward caller callee back)
    ],
  )
