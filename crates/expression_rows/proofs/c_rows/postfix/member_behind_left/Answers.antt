use Rattle.std.proofs.Common.{ap}
use Rattle.c_consts.specs.Core.{ctype_of}
use Rattle.c_senses.specs.Sense.{sense_in, value_in}
use Rattle.c_senses.specs.Conversions.{OperandSort, operand_of}
use Rattle.c_senses.specs.Objects.{arrow_row}
use Rattle.core_nodes.specs.Standing.{core_at}
use Rattle.core_nodes.proofs.Growing.{knows_on}
use Rattle.core_nodes.proofs.Failing.{fails, follows, made_same}
use Rattle.c_results.specs.Standing.{senses_made}
use Rattle.expression_rows.proofs.c_rows.postfix.member_behind_left.Goals as goal

pub returns-in-Ok-clause-made : goal.returns-in-Ok-clause-made
returns-in-Ok-clause-made c w k =
    let u0 = c.args.unit.now in
    let u1 = c.value_of.new.unit in
    let u2 = c.arrow_row.new.unit in
    let sense = sense_in (senses_made u0 c.args.results.now) in
    let k1 = knows_on w u0 u1 c.in-Ok.ensures.builds k in
    let row = made_same u2 c.arrow_row.result _ _
    (ap (λ (x : OperandSort). arrow_row w c.args.place c.args.at c.args.name.now (core_at u1 c.in-Ok.v) x) c.sort_of_node-x.ensures.sort) (c.arrow_row.ensures.made w k1) in
    follows u1 u2 c.in-Ok.v c.arrow_row.result (value_in w c.args.at (sense c.args.left))
    (λ v. arrow_row w c.args.place c.args.at c.args.name.now v (operand_of (ctype_of v))) (c.in-Ok.ensures.made w k) row

pub returns-in-Err-clause-made : goal.returns-in-Err-clause-made
returns-in-Err-clause-made c w k =
    let u1 = c.value_of.new.unit in
    let sense = sense_in (senses_made c.args.unit.now c.args.results.now) in
    fails u1 u1 c.in-Err.fault (value_in w c.args.at (sense c.args.left)) (λ v. arrow_row w c.args.place c.args.at c.args.name.now v (operand_of (ctype_of v))) (c.in-Err.ensures.made w k)
