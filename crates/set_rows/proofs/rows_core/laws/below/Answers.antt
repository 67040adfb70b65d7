use Rattle.set_rows.proofs.rows_core.Runs.{stays_below}
use Rattle.set_rows.proofs.rows_core.laws.below.Goals as goal

pub returns : goal.returns
returns c = stays_below
