use Rattle.lib_summaries.specs.Table.{rows, effects_of}
use Rattle.lib_summaries.proofs.table.effects.Goals as goal

pub returns : goal.returns
unfolding rows effects_of
returns c = c.effects_in.ensures
