use Rattle.refusal_laws.proofs.Rows.{rows_built}
use Rattle.refusal_laws.proofs.laws.rows_are_built.Goals as goal

pub returns : goal.returns
returns c = rows_built
