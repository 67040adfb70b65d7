use Rattle.c_senses.specs.Conversions.{value_of}
use Rattle.c_senses.specs.Sense.{sense_in, core_of}
use Rattle.core_nodes.proofs.Failing.{follows}
use Rattle.c_results.specs.Standing.{senses_made}
use Rattle.expression_rows.proofs.whole_rows.operands.value_of.Goals as goal

pub returns-in-Ok-clause-made : goal.returns-in-Ok-clause-made
returns-in-Ok-clause-made c w k =
    let u = c.args.unit.now in
    let S = sense_in (senses_made u c.args.results.now) in
    follows u c.value.new.unit c.in-Ok.node c.value.result (core_of c.args.at (S c.args.part)) (value_of w c.args.at) c.in-Ok.ensures.made (c.value.ensures.made w k)
