use Rattle.set_rows.proofs.rows_core.Runs.{only_grow}
use Rattle.set_rows.proofs.rows_core.laws.grows.Goals as goal

pub returns : goal.returns
returns c = only_grow
