use Rattle.unit_walk.proofs.row_shapes.Rows.{rows_keep}
use Rattle.unit_walk.proofs.row_shapes.laws.rows_keep.Goals as goal

pub returns : goal.returns
returns c = rows_keep
