use Rattle.std.proofs.Common.{false, List, ap, sym, subst, ◌∙◌}
use Rattle.std.proofs.lemmas.Result.{IfOk-weaker}
use Rattle.c_scope.specs.declared.kinds.Declared.{Declared}
use Rattle.c_senses.specs.Sense.{sense_in}
use Rattle.c_results.specs.Standing.{senses_made}
use Rattle.name_chains.specs.declared.links.Link.{Link}
use Rattle.name_chains.specs.Links.{listed, IsLinkOf}
use Rattle.tree_reads.specs.Sources.{source_read, source_in}
use Rattle.c_meanings.specs.Known.{nodes_in}
use Rattle.c_meanings.specs.Thinned.{IsThin}
use Rattle.c_meanings.proofs.Thinning.{thin_now}
use Rattle.c_meanings.proofs.Tests.{some_weaker}
use Rattle.c_meanings.proofs.earlier.scope_thinned.Goals as goal

pub thinned_now-requires-clause-last : goal.thinned_now-requires-clause-last
thinned_now-requires-clause-last c =
    subst (λ (l : List Link). IsLinkOf l c.in_scope_link-last.result) (sym c.as_slice-links.ensures.value) (c.in_scope_link-last.ensures.link (source_read c.args.syntax.now) (nodes_in c.args.syntax.now) c.requires.names.chained.chains)

pub returns-clause-thin : goal.returns-clause-thin
returns-clause-thin c =
    IfOk-weaker c.thinned_now.result _ _
    (λ found h. some_weaker _ _ found
    (λ v g u uses.
    let s = source_in c.args.syntax.now uses in
    let those = ap (λ (l : List Link). listed l c.in_scope_link-last.result) c.as_slice-links.ensures.value ∙ c.in_scope_link-last.ensures.list s (nodes_in c.args.syntax.now) c.requires.names.chained.chains in
    subst (λ (ds : List Declared). IsThin s (sense_in (senses_made u c.args.results.now)) ds v.items) those
    (thin_now c.args.syntax.now c.args.results.now false (listed c.as_slice-links.result.now c.in_scope_link-last.result) v.items g u uses))
    h)
    c.thinned_now.ensures.list
