use Rattle.std.proofs.Common.{Option, subst, ◌∙◌}
use Rattle.name_chains.specs.declared.chains.Chain.{Chain}
use Rattle.name_chains.specs.declared.chains.Joined.{Joined}
use Rattle.name_chains.specs.Links.{listed}
use Rattle.name_chains.specs.Chains.{ChainSays, JoinedSays}
use Rattle.name_chains.proofs.Linked.{listed-none}
use Rattle.name_chains.proofs.Chained.{outer_hidden}
use Rattle.name_chains.proofs.chains.with_outer.Goals as goal

pub returns-in_default-joined-clause-list : goal.returns-in_default-joined-clause-list
returns-in_default-joined-clause-list c = λ those h.
    let own = c.args.own.now in
    let links = c.args.links.now.items in
    let keeps = subst (λ (o : Option Chain). ChainSays own links o those) c.in-Some.is h in
    listed-none links ∙ outer_hidden those (listed links c.args.outer) (subst (λ (o : Option Joined). JoinedSays links o those) c.in_default-joined.is keeps.joined)
