use Rattle.core_node_laws.proofs.count_laws.count_rows.Rows.{rows_count}
use Rattle.core_node_laws.proofs.count_laws.count_rows.laws.rows_count.Goals as goal

pub returns : goal.returns
returns c = rows_count
