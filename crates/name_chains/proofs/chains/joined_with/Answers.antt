use Rattle.std.proofs.Common.{◌≡◌, false, Option, subst}
use Rattle.c_senses.specs.Names.{has_linkage}
use Rattle.name_chains.specs.declared.chains.Chain.{Chain}
use Rattle.name_chains.specs.declared.chains.Joined.{Joined}
use Rattle.name_chains.specs.Chains.{ChainSays, JoinedSays}
use Rattle.name_chains.proofs.Chained.{one_without, some_without}
use Rattle.name_chains.proofs.chains.joined_with.Goals as goal

pub returns-then-not-has_linkage-clause-list : goal.returns-then-not-has_linkage-clause-list
returns-then-not-has_linkage-clause-list c = λ own those typed h.
    let e : has_linkage c.args.declared ≡ false = cc in
    one_without those c.args.declared e

pub returns-in_default-joined-clause-list : goal.returns-in_default-joined-clause-list
returns-in_default-joined-clause-list c = λ own those typed h.
    let links = c.args.links.now.items in
    let keeps = subst (λ (o : Option Chain). ChainSays own links o those) c.in-Some.is h in
    some_without those c.args.declared (subst (λ (o : Option Joined). JoinedSays links o those) c.in_default-joined.is keeps.joined)
