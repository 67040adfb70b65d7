use Rattle.std.proofs.Common.{◌≡◌, ℕ, List, Some, Contains, sym, ◌∙◌, ap, subst}
use Rattle.edge_book.specs.Edges.{Gains}
use Rattle.edge_book.proofs.Gaining.{gains_same}
use Rattle.pta_base.specs.declared.effect.Effect.TheVariants.{GivesNew}
use Rattle.sol_model.specs.Rules.{first_row, EffectFact}
use Rattle.new_members.proofs.Answering.{on_ok}
use Rattle.new_members.proofs.effects.put_fresh.Goals as goal

pub returns : goal.returns
returns c =
    let call = c.args.call.now in
    let old = c.args.facts.now.items in
    let new = c.put_stores.new.pairs.items in
    let tos = c.as_slice-2.result.now in
    let to_is : c.first_row-to.result ≡ first_row call.result = c.first_row-to.ensures.value ∙ ap first_row c.as_slice.ensures in
    on_ok c.put_stores.result (Gains old new (λ a b. Contains tos b × (c.first_row-to.result ≡ Some a))) (Gains old new (EffectFact call c.args.number GivesNew))
    (gains_same old new (λ a b. Contains tos b × (c.first_row-to.result ≡ Some a)) (EffectFact call c.args.number GivesNew)
    (λ a b h. (sym to_is ∙ h.1, (c.in_ok-objects.ensures.has b).0 (subst (λ (xs : List ℕ). Contains xs b) c.as_slice-2.ensures.value h.0)))
    (λ a b h. (subst (λ (xs : List ℕ). Contains xs b) (sym c.as_slice-2.ensures.value) ((c.in_ok-objects.ensures.has b).1 h.1), to_is ∙ h.0)))
    c.put_stores.ensures
