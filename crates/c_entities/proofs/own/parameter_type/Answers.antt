use Rattle.std.proofs.Common.{ap, ◌∙◌}
use Rattle.core_nodes.specs.passed.c_senses.Sense.{sense_in}
use Rattle.core_nodes.specs.passed.c_senses.Entities as spec
use Rattle.c_results.specs.Standing.{senses_made}
use Rattle.tree_reads.specs.Sources.{source_read}
use Rattle.c_entities.proofs.Reading.{param_seen, param_missing}
use Rattle.c_entities.proofs.own.parameter_type.Goals as goal

pub returns-in-Some-parameter_at-clause-seen : goal.returns-in-Some-parameter_at-clause-seen
returns-in-Some-parameter_at-clause-seen c = λ u.
    let sense = sense_in (senses_made u c.args.results.now) in
    param_seen (sense c.in-Some.declaration) _ (c.in-Some-parameter_at.ensures.seen u) ∙ ap (spec.parameter_type (source_read c.args.syntax.now) sense) (c.in-Some.ensures.declaration sense)

pub returns-in-None-parameter_at-clause-seen : goal.returns-in-None-parameter_at-clause-seen
returns-in-None-parameter_at-clause-seen c = λ u.
    let sense = sense_in (senses_made u c.args.results.now) in
    param_missing (sense c.in-Some.declaration) (c.in-None-parameter_at.ensures.seen u) ∙ ap (spec.parameter_type (source_read c.args.syntax.now) sense) (c.in-Some.ensures.declaration sense)

pub returns-in-None-clause-seen : goal.returns-in-None-clause-seen
returns-in-None-clause-seen c = λ u.
    let sense = sense_in (senses_made u c.args.results.now) in
    ap (spec.parameter_type (source_read c.args.syntax.now) sense) (c.in-None.ensures.declaration sense)
