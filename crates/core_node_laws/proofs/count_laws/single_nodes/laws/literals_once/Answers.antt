use Rattle.core_node_laws.proofs.count_laws.single_nodes.Whole.{literals_once}
use Rattle.core_node_laws.proofs.count_laws.single_nodes.laws.literals_once.Goals as goal

pub returns : goal.returns
returns c = literals_once
