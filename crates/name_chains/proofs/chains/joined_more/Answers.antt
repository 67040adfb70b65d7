use Rattle.std.proofs.Common.{◌≡◌, [], ◌∷◌, ◌++◌, refl, sym, ap, ◌∙◌}
use Rattle.name_chains.specs.Links.{listed}
use Rattle.name_chains.proofs.Linked.{added_list}
use Rattle.name_chains.proofs.Chained.{joined_push}
use Rattle.name_chains.proofs.chains.joined_more.Goals as goal

pub returns-then-is_same-clause-list : goal.returns-then-is_same-clause-list
returns-then-is_same-clause-list c = λ those linked typed h.
    let links = c.args.links.now.items in
    let same = c.is_same.ensures c.if-is_same.true in
    let list : listed links c.args.typing ≡ listed links c.args.joined.last ++ c.args.declared ∷ [] = typed ∙ ap (λ o. listed links o ++ c.args.declared ∷ []) (sym same) in
    joined_push links links c.args.joined c.args.typing those c.args.declared linked h list refl

pub returns-in_ok-last-clause-list : goal.returns-in_ok-last-clause-list
returns-in_ok-last-clause-list c = λ those linked typed h.
    let old = c.args.links.now.items in
    let new = c.push_link.new.links.items in
    joined_push old new c.args.joined c.in_ok-last.last those c.args.declared linked h c.in_ok-last.ensures.list (added_list old new c.in_ok-last.ensures.adds c.args.joined.base c.requires.joined.0)
