use Rattle.core_node_laws.proofs.count_laws.once_nodes.Whole.{nodes_once}
use Rattle.core_node_laws.proofs.count_laws.once_nodes.laws.nodes_once.Goals as goal

pub returns : goal.returns
returns c = nodes_once
