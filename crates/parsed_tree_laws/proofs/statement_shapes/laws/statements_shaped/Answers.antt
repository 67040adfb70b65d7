use Rattle.parsed_tree_laws.proofs.statement_shapes.Rows.{statements_shaped}
use Rattle.parsed_tree_laws.proofs.statement_shapes.laws.statements_shaped.Goals as goal

pub returns : goal.returns
returns c = statements_shaped
