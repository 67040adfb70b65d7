use Rattle.core_node_laws.proofs.count_laws.single_nodes.Whole.{calls_once}
use Rattle.core_node_laws.proofs.count_laws.single_nodes.laws.calls_once.Goals as goal

pub returns : goal.returns
returns c = calls_once
