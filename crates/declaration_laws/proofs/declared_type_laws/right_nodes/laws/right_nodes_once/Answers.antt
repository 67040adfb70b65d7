use Rattle.declaration_laws.proofs.declared_type_laws.right_nodes.Whole.{right_nodes_once}
use Rattle.declaration_laws.proofs.declared_type_laws.right_nodes.laws.right_nodes_once.Goals as goal

pub returns : goal.returns
returns c = right_nodes_once
