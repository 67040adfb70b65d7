use Rattle.set_rows.proofs.rows_core.Runs.{shut_rows_are_least}
use Rattle.set_rows.proofs.rows_core.laws.least_when_shut.Goals as goal

pub returns : goal.returns
returns c = shut_rows_are_least
