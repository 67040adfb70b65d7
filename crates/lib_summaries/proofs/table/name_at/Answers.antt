use Rattle.lib_summaries.specs.Table.{rows, name_of}
use Rattle.lib_summaries.proofs.table.name_at.Goals as goal

pub returns : goal.returns
unfolding rows name_of
returns c = c.name_in.ensures
