use Rattle.core_node_laws.proofs.count_laws.single_nodes.Whole.{texts_once}
use Rattle.core_node_laws.proofs.count_laws.single_nodes.laws.texts_once.Goals as goal

pub returns : goal.returns
returns c = texts_once
