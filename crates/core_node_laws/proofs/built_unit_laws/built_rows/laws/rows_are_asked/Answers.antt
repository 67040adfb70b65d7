use Rattle.core_node_laws.proofs.built_unit_laws.built_rows.Placed.{rows_asked}
use Rattle.core_node_laws.proofs.built_unit_laws.built_rows.laws.rows_are_asked.Goals as goal

pub returns : goal.returns
returns c = rows_asked
