use Rattle.c_senses.specs.Conversions.{value_of}
use Rattle.c_senses.specs.Expressions.{value_core}
use Rattle.core_nodes.specs.Standing.{core_at}
use Rattle.core_nodes.proofs.Growing.{knows_on}
use Rattle.core_nodes.proofs.Failing.{follows, made_same}
use Rattle.expression_rows.proofs.whole_rows.Prefixes.{takes_value}
use Rattle.expression_rows.proofs.whole_rows.prefix.operator_row.Goals as goal

pub returns-in-Ok-clause-made : goal.returns-in-Ok-clause-made
returns-in-Ok-clause-made c w k =
    let u0 = c.args.unit.now in
    let u1 = c.value.new.unit in
    let u2 = c.value_row.new.unit in
    let k1 = knows_on w u0 u1 c.in-Ok.ensures.builds k in
    made_same u2 c.value_row.result _ _ (takes_value w c.args.place c.args.at (core_at u0 c.args.operand) c.args.sign c.if-sign-eq-SIGN_AMPERSAND.false)
    (follows u1 u2 c.in-Ok.v c.value_row.result (value_of w c.args.at (core_at u0 c.args.operand)) (λ v. value_core w c.args.place c.args.at v c.args.sign) (c.in-Ok.ensures.made w k) (c.value_row.ensures.made w k1))
