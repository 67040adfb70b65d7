use Rattle.std.proofs.Common.{arith, sym}
use Rattle.lib_summaries.proofs.Found.{effects_at, effects_past}
use Rattle.lib_summaries.proofs.table.effects_in.Goals as goal

pub returns-then-number-rows : goal.returns-then-number-rows
returns-then-number-rows c = sym (effects_at c.args.rows.now c.args.number _ c.if-number-rows.true)

pub returns-else-number-rows : goal.returns-else-number-rows
returns-else-number-rows c = sym (effects_past c.args.rows.now c.args.number c.if-number-rows.false)
