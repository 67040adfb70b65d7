use Rattle.std.proofs.Common.{◌<◌, Some, length, ap, sym, subst, ◌∙◌}
use Rattle.c_senses.specs.Sense.{sense_in}
use Rattle.c_results.specs.Standing.{senses_made}
use Rattle.tree_reads.specs.Sources.{source_read, source_in}
use Rattle.c_senses.specs.Entities.{same_internal}
use Rattle.name_chains.specs.Links.{listed, IsLinkOf}
use Rattle.name_chains.proofs.Linked.{listed-none}
use Rattle.c_meanings.specs.Known.{nodes_in}
use Rattle.c_meanings.proofs.Onward.{one_now, one_is}
use Rattle.c_meanings.proofs.kept.same_internal_kept.Goals as goal

pub returns-in_default-clause-same : goal.returns-in_default-clause-same
returns-in_default-clause-same c = λ u w uses.
    let s = source_in c.args.syntax.now uses in
    let sense = sense_in (senses_made u c.args.results.now) in
    let xs = c.args.names.now.chains.own.items in
    sym
    (ap (same_internal w s sense c.args.internal)
    (sym (c.in_scope_link.ensures.list s (nodes_in c.args.syntax.now) c.requires.names.chained.chains) ∙ (ap (listed xs) c.in_default.is ∙ listed-none xs)))

pub one_at-requires-clause-place : goal.one_at-requires-clause-place
one_at-requires-clause-place c =
    subst (IsLinkOf c.args.names.now.chains.own.items) c.in-Some.is (c.in_scope_link.ensures.link (source_read c.args.syntax.now) (nodes_in c.args.syntax.now) c.requires.names.chained.chains)

pub returns-in-Some-one_at-clause-same : goal.returns-in-Some-one_at-clause-same
returns-in-Some-one_at-clause-same c = λ u w uses.
    let s = source_in c.args.syntax.now uses in
    let sense = sense_in (senses_made u c.args.results.now) in
    let xs = c.args.names.now.chains.own.items in
    let place = c.in-Some.place in
    let within : place < length xs = subst (IsLinkOf xs) c.in-Some.is (c.in_scope_link.ensures.link (source_read c.args.syntax.now) (nodes_in c.args.syntax.now) c.requires.names.chained.chains) in
    one_is s sense xs c.requires.names.chained.chains.own place within w c.in-Some-one_at.flag c.args.internal
    (one_now c.args.syntax.now c.args.results.now (listed xs (Some place)) c.in-Some-one_at.flag c.in-Some-one_at.ensures.one u w uses)
    ∙ ap (same_internal w s sense c.args.internal)
    (sym (ap (listed xs) c.in-Some.is) ∙ c.in_scope_link.ensures.list s (nodes_in c.args.syntax.now) c.requires.names.chained.chains)
