use Rattle.std.proofs.Common.{◌≡◌, ℕ, Some, sym, ◌∙◌, ap, subst}
use Rattle.edge_book.proofs.Gaining.{gains_same, gains_none}
use Rattle.pta_base.specs.declared.effect.Effect.{Effect}
use Rattle.sol_model.specs.Rules.{first_row, PairEdge, EffectEdge}
use Rattle.edge_book.specs.Edges.{only}
use Rattle.edge_book.proofs.Alone.{no_call_back}
use Rattle.edge_book.proofs.effects.put_effect.Goals as goal

pub returns-in_ok-put_between-in-GivesArgument : goal.returns-in_ok-put_between-in-GivesArgument
returns-in_ok-put_between-in-GivesArgument c =
    let call = c.args.call.now in
    let E : Effect → ℕ → ℕ → Type 0 = EffectEdge c.args.system.now (only call.callee c.args.location) call c.args.number in
    let to_is : c.first_row-to.result ≡ first_row call.result = c.first_row-to.ensures.value ∙ ap first_row c.as_slice.ensures in
    gains_same c.args.pairs.now.items c.put_between.new.pairs.items (λ a b. (c.argument_row-from.result ≡ Some a) × (c.first_row-to.result ≡ Some b)) (E c.args.effect)
    (λ a b h. subst (λ (e : Effect). E e a b) (sym c.in-GivesArgument.is) (sym c.argument_row-from.ensures.value ∙ h.0, sym to_is ∙ h.1))
    (λ a b h. let k = subst (λ (e : Effect). E e a b) c.in-GivesArgument.is h in (c.argument_row-from.ensures.value ∙ k.0, to_is ∙ k.1))
    c.in_ok-put_between-in-GivesArgument.ensures

pub returns-in_ok-put_objects-in-Copies : goal.returns-in_ok-put_objects-in-Copies
returns-in_ok-put_objects-in-Copies c =
    let call = c.args.call.now in
    let S = c.args.system.now in
    let E : Effect → ℕ → ℕ → Type 0 = EffectEdge S (only call.callee c.args.location) call c.args.number in
    gains_same c.args.pairs.now.items c.put_objects.new.pairs.items (λ a b. (target : ℕ) × (source : ℕ) × (c.object_of-to.result ≡ Some target) × (c.object_of-from.result ≡ Some source) × PairEdge S target source a b) (E c.args.effect)
    (λ a b h. subst (λ (e : Effect). E e a b) (sym c.in-Copies.is) (h.0, h.1, (c.object_of-to.ensures.value h.0).1 h.2, (c.object_of-from.ensures.value h.1).1 h.3, h.4))
    (λ a b h. let k = subst (λ (e : Effect). E e a b) c.in-Copies.is h in (k.0, k.1, (c.object_of-to.ensures.value k.0).0 k.2, (c.object_of-from.ensures.value k.1).0 k.3, k.4))
    c.in_ok-put_objects-in-Copies.ensures

pub returns-in_ok-put_between-in-StoresInto : goal.returns-in_ok-put_between-in-StoresInto
returns-in_ok-put_between-in-StoresInto c =
    let call = c.args.call.now in
    let E : Effect → ℕ → ℕ → Type 0 = EffectEdge c.args.system.now (only call.callee c.args.location) call c.args.number in
    gains_same c.args.pairs.now.items c.put_between-in-StoresInto.new.pairs.items (λ a b. (c.argument_row-from-in-StoresInto.result ≡ Some a) × (c.reached_of-to.result ≡ Some b)) (E c.args.effect)
    (λ a b h. subst (λ (e : Effect). E e a b) (sym c.in-StoresInto.is) (let r = (c.reached_of-to.ensures.value b).1 h.1 in (r.0, r.1, r.2, sym c.argument_row-from-in-StoresInto.ensures.value ∙ h.0)))
    (λ a b h. let k = subst (λ (e : Effect). E e a b) c.in-StoresInto.is h in (c.argument_row-from-in-StoresInto.ensures.value ∙ k.3, (c.reached_of-to.ensures.value b).0 (k.0, k.1, k.2)))
    c.in_ok-put_between-in-StoresInto.ensures

pub returns-in-CallsBack : goal.returns-in-CallsBack
returns-in-CallsBack c =
    let call = c.args.call.now in
    let S = c.args.system.now in
    let E : Effect → ℕ → ℕ → Type 0 = EffectEdge S (only call.callee c.args.location) call c.args.number in
    gains_none c.args.pairs.now.items (E c.args.effect)
    (λ a b h. no_call_back S c.requires.valid call c.args.number c.args.location c.args.library c.in-CallsBack.field-0 c.in-CallsBack.field-1 c.args.function.now a b c.requires.location.0 c.requires.function c.requires.location.1 c.requires.library (subst (λ (e : Effect). E e a b) c.in-CallsBack.is h))
