use Rattle.c_senses.specs.Sense.{sense_in}
use Rattle.c_results.specs.Standing.{senses_made}
use Rattle.tree_reads.specs.Sources.{source_in}
use Rattle.c_tags.proofs.Asserting.{align_value, align_fault}
use Rattle.c_tags.proofs.assertions.align_specifier.Goals as goal

pub returns-in-Ok-clause-row : goal.returns-in-Ok-clause-row
returns-in-Ok-clause-row c = λ w uses k.
    let u = c.args.unit.now in
    let s = source_in c.args.syntax.now uses in
    let sense = sense_in (senses_made u c.args.results.now) in
    align_value w s sense c.args.at c.args.children.now c.in-Some.operand c.in-Ok.field-0 c.in-Some.ensures (c.in-None.ensures.seen u) (c.in-Ok.ensures.value w uses k)

pub returns-in-Err-clause-row : goal.returns-in-Err-clause-row
returns-in-Err-clause-row c = λ w uses k.
    let u = c.args.unit.now in
    let s = source_in c.args.syntax.now uses in
    let sense = sense_in (senses_made u c.args.results.now) in
    align_fault w s sense c.args.at u c.args.children.now c.in-Some.operand c.in-Err.fault c.in-Some.ensures (c.in-None.ensures.seen u) (c.in-Err.ensures.value w uses k)
