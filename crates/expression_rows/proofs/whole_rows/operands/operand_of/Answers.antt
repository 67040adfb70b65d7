use Rattle.c_senses.specs.Sense.{sense_in}
use Rattle.c_results.specs.Standing.{senses_made}
use Rattle.expression_rows.proofs.whole_rows.Keeping.{sense_rows, core_rows}
use Rattle.expression_rows.proofs.whole_rows.operands.operand_of.Goals as goal

pub returns-clause-rows : goal.returns-clause-rows
returns-clause-rows c =
    let u = c.args.unit.now in
    let rs = c.args.results.now in
    core_rows u c.args.at c.core_of.result (sense_in (senses_made u rs) c.args.part) c.core_of.ensures.made (sense_rows u rs c.requires.rows c.args.part)
