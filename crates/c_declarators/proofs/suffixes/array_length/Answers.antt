use Rattle.core_nodes.specs.passed.c_senses.Sense.{sense_in}
use Rattle.c_results.specs.Standing.{senses_made}
use Rattle.tree_reads.specs.Sources.{source_read}
use Rattle.c_declarators.proofs.Lengths.{brackets_core, brackets_none, brackets_star}
use Rattle.c_conversions.proofs.constant_values.Valuing.{rows_read}
use Rattle.core_nodes.specs.Standing.{core_at}
use Rattle.c_declarators.proofs.suffixes.array_length.Goals as goal

pub returns-in-Some-node_at : goal.returns-in-Some-node_at
returns-in-Some-node_at c = λ w.
    let s = source_read c.args.syntax.now in
    let u = c.args.unit.now in
    let sense = sense_in (senses_made u c.args.results.now) in
    brackets_core w s sense c.args.at c.args.rest.now c.in-Some.expression _ _ c.in-Some.ensures (c.in-Some-node_at.ensures.seen u) (c.node_length.ensures w)

pub returns-in-None-node_at : goal.returns-in-None-node_at
returns-in-None-node_at c = λ w.
    let s = source_read c.args.syntax.now in
    let u = c.args.unit.now in
    let sense = sense_in (senses_made u c.args.results.now) in
    brackets_none w s sense c.args.at c.args.rest.now c.in-Some.expression c.in-Some.ensures (c.in-None-node_at.ensures.seen u)

pub returns-then-any_where : goal.returns-then-any_where
returns-then-any_where c = λ w.
    let s = source_read c.args.syntax.now in
    let u = c.args.unit.now in
    let sense = sense_in (senses_made u c.args.results.now) in
    brackets_star w s sense c.args.at c.args.rest.now _ c.in-None.ensures c.if-any_where.ensures (c.unless_constant.ensures u w)

pub node_length-requires-clause-rows : goal.node_length-requires-clause-rows
node_length-requires-clause-rows c =
    let u = c.args.unit.now in
    rows_read u c.args.results.now c.in-Some.expression (core_at u c.in-Some-node_at.node) c.requires.rows (c.in-Some-node_at.ensures.seen u)
