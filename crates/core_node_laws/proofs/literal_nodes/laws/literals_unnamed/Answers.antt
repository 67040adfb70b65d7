use Rattle.core_node_laws.proofs.literal_nodes.Unnamed.{unnamed}
use Rattle.core_node_laws.proofs.literal_nodes.laws.literals_unnamed.Goals as goal

pub returns : goal.returns
returns c = unnamed
