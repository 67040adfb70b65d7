use Rattle.std.proofs.Common.{◌≡◌, ℕ, List, [], ◌∷◌, ◌++◌, length, Some, ap, ◌∙◌, arith}
use Rattle.name_chains.specs.declared.links.Link.{Link}
use Rattle.name_chains.specs.Links.{listed}
use Rattle.name_chains.proofs.Linked.{listed-push}
use Rattle.c_meanings.proofs.thinned.push_link.Goals as goal

pub returns-clause-list : goal.returns-clause-list
returns-clause-list c =
    let old = c.args.links.now.items in
    let l : Link = record { before = c.args.last; declared = c.args.declared } in
    let long : c.len-end.result ≡ length old = omega arith in
    ap (λ (t : List Link). listed t (Some c.len-end.result)) c.in_ok-push.ensures.items
    ∙ (ap (λ (n : ℕ). listed (old ++ l ∷ []) (Some n)) long ∙ listed-push old l)
