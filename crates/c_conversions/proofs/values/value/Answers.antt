use Rattle.c_conversions.proofs.ValueRows.{value_keeps}
use Rattle.c_conversions.proofs.values.value.Goals as goal

pub returns-clause-rows : goal.returns-clause-rows
returns-clause-rows c = value_keeps c.args.unit.now c.value.new.unit c.args.at c.args.node c.value.result c.requires.rows c.value.ensures.made
