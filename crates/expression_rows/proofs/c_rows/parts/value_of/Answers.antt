use Rattle.expression_rows.proofs.c_rows.Cores.{value_none}
use Rattle.expression_rows.proofs.c_rows.parts.value_of.Goals as goal

pub returns-in-None-clause-made : goal.returns-in-None-clause-made
returns-in-None-clause-made c w k = value_none w c.args.at _ (c.in-None.ensures.seen c.args.unit.now)
