use Rattle.std.proofs.Common.{true, List, subst}
use Rattle.std.proofs.lemmas.Result.{IfOk-weaker}
use Rattle.c_scope.specs.declared.kinds.Declared.{Declared}
use Rattle.c_senses.specs.Sense.{sense_in}
use Rattle.c_results.specs.Standing.{senses_made}
use Rattle.tree_reads.specs.Sources.{source_in}
use Rattle.name_chains.specs.Links.{listed}
use Rattle.c_meanings.specs.Thinned.{IsThin}
use Rattle.c_meanings.proofs.Thinning.{thin_now}
use Rattle.c_meanings.proofs.Tests.{some_weaker}
use Rattle.c_meanings.proofs.earlier.internal_thinned.Goals as goal

pub returns-clause-thin : goal.returns-clause-thin
returns-clause-thin c =
    IfOk-weaker c.symbol_thinned.result _ _
    (λ found h. some_weaker _ _ found
    (λ v g u w uses.
    let sense = sense_in (senses_made u c.args.results.now) in
    subst (λ (ds : List Declared). IsThin (source_in c.args.syntax.now uses) sense ds v.items) (c.symbol_before-last.ensures.list w uses sense)
    (thin_now c.args.syntax.now c.args.results.now true (listed c.args.names.now.symbols.items c.symbol_before-last.result) v.items g u uses))
    h)
    c.symbol_thinned.ensures.thin
