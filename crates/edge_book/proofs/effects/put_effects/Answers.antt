use Rattle.std.proofs.Common.{◌≡◌, ℕ, ◌<◌, List, Some, slice_get, sym, ◌∙◌, subst, arith}
use Rattle.std.proofs.lemmas.Option.{same_Some}
use Rattle.sol_model.proofs.Members.{Contains-at, at_Contains}
use Rattle.edge_book.proofs.Gaining.{Below, none_below, one_more, gains_same}
use Rattle.pta_base.specs.declared.effect.Effect.{Effect}
use Rattle.sol_model.specs.declared.system.System.{System}
use Rattle.sol_model.specs.declared.system.CallSite.{CallSite}
use Rattle.sol_model.specs.Rules.{EffectEdge, TargetEdge}
use Rattle.edge_book.specs.Edges.{only}
use Rattle.edge_book.proofs.effects.put_effects.Goals as goal

abbrev At : System → CallSite → ℕ → ℕ → List Effect → ℕ → ℕ → ℕ → Type 0
At S call location number effects k a b = (effect : Effect) × (slice_get effects k ≡ Some effect) × EffectEdge S (only call.callee location) call number effect a b

pub loop-i-init : goal.loop-i-init
loop-i-init c = none_below c.args.pairs.now.items (At c.args.system.now c.args.call.now c.args.location c.args.number c.args.function.now.effects)

pub loop-i-preserved : goal.loop-i-preserved
loop-i-preserved c =
    let S = c.args.system.now in
    let call = c.args.call.now in
    let mid = c.loop-i.pairs.items in
    let new = c.put_effect.new.pairs.items in
    let here = At S call c.args.location c.args.number c.args.function.now.effects in
    one_more c.args.pairs.now.items mid new c.loop-i.i here c.loop-i.invariant
    (gains_same mid new (EffectEdge S (only call.callee c.args.location) call c.args.number c.effect_at-effect.result) (here c.loop-i.i)
    (λ a b h. (c.effect_at-effect.result, c.effect_at-effect.ensures, h))
    (λ a b h. subst (λ (e : Effect). EffectEdge S (only call.callee c.args.location) call c.args.number e a b) (same_Some _ _ (sym h.1 ∙ c.effect_at-effect.ensures)) h.2)
    c.in_ok-put_effect.ensures)

pub returns : goal.returns
returns c =
    let S = c.args.system.now in
    let call = c.args.call.now in
    let effects = c.args.function.now.effects in
    gains_same c.args.pairs.now.items c.loop-i.pairs.items (Below c.loop-i.i (At S call c.args.location c.args.number effects)) (TargetEdge S (only call.callee c.args.location) call c.args.number c.args.function.now (Some c.args.library))
    (λ a b h. (h.2.0, Contains-at effects h.0 h.2.0 h.2.1, h.2.2))
    (λ a b h.
    let w = at_Contains effects h.0 h.1 in
    let end = c.len-i-end.ensures in
    let past = c.loop-i-test.false in
    let lt = w.1 in
    let here : w.0 < c.loop-i.i = omega arith in
    (w.0, here, (h.0, w.2, h.2)))
    c.loop-i.invariant
