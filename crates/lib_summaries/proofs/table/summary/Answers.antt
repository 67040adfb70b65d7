use Rattle.lib_summaries.specs.Table.{rows, summary_of}
use Rattle.lib_summaries.proofs.table.summary.Goals as goal

pub returns : goal.returns
unfolding rows summary_of
returns c = c.find_in.ensures
