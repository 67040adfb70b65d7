use Rattle.std.proofs.Common.{◌≡◌, ℕ, Some, sym, ◌∙◌, subst}
use Rattle.std.proofs.lemmas.Option.{same_Some}
use Rattle.edge_book.proofs.Gaining.{gains_same}
use Rattle.sol_model.specs.Rules.{PairEdge}
use Rattle.edge_book.proofs.gather.put_objects.Goals as goal

pub returns-in_ok-put_copy : goal.returns-in_ok-put_copy
returns-in_ok-put_copy c =
    let S = c.args.system.now in
    let t = c.in-Some-Some.target in
    let s = c.in-Some-Some.source in
    gains_same c.args.pairs.now.items c.put_copy.new.pairs.items (PairEdge S t s) (λ a b. (target : ℕ) × (source : ℕ) × (c.args.to ≡ Some target) × (c.args.from ≡ Some source) × PairEdge S target source a b)
    (λ a b h. (t, s, c.in-Some-Some.is-0, c.in-Some-Some.is-1, h))
    (λ a b h. subst (λ (d : ℕ). PairEdge S d s a b) (same_Some _ _ (sym h.2 ∙ c.in-Some-Some.is-0))
    (subst (λ (d : ℕ). PairEdge S h.0 d a b) (same_Some _ _ (sym h.3 ∙ c.in-Some-Some.is-1)) h.4))
    c.in_ok-put_copy.ensures
