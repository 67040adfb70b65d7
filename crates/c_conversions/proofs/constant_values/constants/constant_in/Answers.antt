use Rattle.core_nodes.specs.passed.c_senses.Sense.{sense_in}
use Rattle.c_results.specs.Standing.{senses_made}
use Rattle.core_nodes.specs.Standing.{core_at}
use Rattle.tree_reads.specs.Sources.{source_in}
use Rattle.c_conversions.proofs.constant_values.Valuing.{in_sense, in_nothing, rows_read}
use Rattle.c_conversions.proofs.constant_values.constants.constant_in.Goals as goal

pub constant_at-requires-clause-rows : goal.constant_at-requires-clause-rows
constant_at-requires-clause-rows c =
    let u = c.args.unit.now in
    rows_read u c.args.results.now c.args.child (core_at u c.in-Some.node) c.requires.rows (c.in-Some.ensures.seen u)

pub returns-in-Some-clause-value : goal.returns-in-Some-clause-value
returns-in-Some-clause-value c = λ w uses k.
    let u = c.args.unit.now in
    in_sense w (source_in c.args.syntax.now uses) c.args.at (sense_in (senses_made u c.args.results.now) c.args.child) (core_at u c.in-Some.node) c.constant_at.result (c.in-Some.ensures.seen u) (c.constant_at.ensures.value w k)

pub returns-in-None-clause-value : goal.returns-in-None-clause-value
returns-in-None-clause-value c = λ w uses k.
    let u = c.args.unit.now in
    in_nothing w (source_in c.args.syntax.now uses) c.args.at (sense_in (senses_made u c.args.results.now) c.args.child) (c.in-None.ensures.seen u)
