use Rattle.std.proofs.Common.{◌≡◌, Some, sym, ◌∙◌, ap}
use Rattle.std.proofs.lemmas.Option.{same_Some}
use Rattle.edge_book.proofs.Gaining.{gains_same}
use Rattle.edge_book.proofs.gather.put_between.Goals as goal

pub returns-in_ok-put : goal.returns-in_ok-put
returns-in_ok-put c =
    gains_same c.args.pairs.now.items c.put.new.pairs.items (λ a b. (a ≡ c.in-Some-Some.source) × (b ≡ c.in-Some-Some.target)) (λ a b. (c.args.from ≡ Some a) × (c.args.to ≡ Some b))
    (λ a b h. (c.in-Some-Some.is-0 ∙ ap Some (sym h.0), c.in-Some-Some.is-1 ∙ ap Some (sym h.1)))
    (λ a b h. (same_Some _ _ (sym h.0 ∙ c.in-Some-Some.is-0), same_Some _ _ (sym h.1 ∙ c.in-Some-Some.is-1)))
    c.in_ok-put.ensures
