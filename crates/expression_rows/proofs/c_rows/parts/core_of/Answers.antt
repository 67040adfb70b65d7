use Rattle.expression_rows.proofs.c_rows.Cores.{core_none}
use Rattle.expression_rows.proofs.c_rows.parts.core_of.Goals as goal

pub returns-in-None-clause-made : goal.returns-in-None-clause-made
returns-in-None-clause-made c = core_none c.args.at _ (c.in-None.ensures.seen c.args.unit.now)
