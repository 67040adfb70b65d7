use Rattle.std.proofs.Common.{◌≡◌, List, [], ◌∷◌, ◌++◌, Option, sym, ap, subst, ◌∙◌}
use Rattle.c_scope.specs.declared.kinds.Declared.{Declared}
use Rattle.c_scope.specs.Known.{those_at}
use Rattle.name_chains.specs.declared.chains.Chain.{Chain}
use Rattle.name_chains.specs.Links.{listed}
use Rattle.name_chains.specs.Chains.{chain_at, own_of, ChainSays}
use Rattle.name_chains.proofs.Linked.{added_list}
use Rattle.name_chains.proofs.Chained.{own_listed, own_is, says_more}
use Rattle.name_chains.proofs.chains.take_in.Goals as goal

pub returns-clause-list : goal.returns-clause-list
returns-clause-list c = λ ds says.
    let own = c.args.own.now.items in
    let links = c.args.links.now.items in
    let d = c.args.declared in
    let chain = chain_at c.args.chains.now d.scope d.symbol in
    let here : c.own_of-here.result ≡ own_of chain = c.own_of-here.ensures ∙ ap own_of c.chain_at-before.ensures in
    ap (listed c.push_link.new.links.items) here
    ∙ (added_list own c.push_link.new.links.items c.in_ok-last.ensures.adds (own_of chain) (own_is own links chain (c.requires.within.each d.scope d.symbol))
    ∙ own_listed own links chain (those_at d.scope d.symbol ds) (says.each d.scope d.symbol))

pub returns-clause-says : goal.returns-clause-says
returns-clause-says c = λ ds typed says.
    let own = c.args.own.now.items in
    let own' = c.push_link.new.links.items in
    let links = c.args.links.now.items in
    let links' = c.joined_with.new.links.items in
    let d = c.args.declared in
    let those = those_at d.scope d.symbol ds in
    let chain = chain_at c.args.chains.now d.scope d.symbol in
    let here : c.own_of-here.result ≡ own_of chain = c.own_of-here.ensures ∙ ap own_of c.chain_at-before.ensures in
    let before = subst (λ (o : Option Chain). ChainSays own links o those) (sym c.chain_at-before.ensures) (says.each d.scope d.symbol) in
    let list = ap (listed own) here ∙ own_listed own links chain those (says.each d.scope d.symbol) in
    says_more own own' links links' c.in_ok-last.ensures.adds c.in_ok-joined.ensures.adds c.args.chains.now c.put.new.chains d _ c.in_ok-put.ensures ds c.requires.within says
    (record {
      list = c.in_ok-last.ensures.list ∙ ap (λ (l : List Declared). l ++ d ∷ []) list;
      joined = c.in_ok-joined.ensures.list own those typed before;
    })
