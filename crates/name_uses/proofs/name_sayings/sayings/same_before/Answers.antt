use Rattle.std.proofs.Common.{ap, ◌∙◌}
use Rattle.c_senses.specs.Sense.{sense_in}
use Rattle.c_senses.specs.Entities.{same_internal}
use Rattle.c_results.specs.Standing.{senses_made}
use Rattle.tree_reads.specs.Sources.{source_in}
use Rattle.name_uses.proofs.name_sayings.sayings.same_before.Goals as goal

pub returns-clause-same : goal.returns-clause-same
returns-clause-same c = λ u w uses.
    let s = source_in c.args.syntax.now uses in
    let sense = sense_in (senses_made u c.args.results.now) in
    c.same_internal.ensures u w uses ∙ ap (same_internal w s sense c.args.internal) (c.as_slice.ensures.value ∙ c.in_ok-before.ensures.list uses)
