use Rattle.core_node_laws.proofs.built_unit_laws.built_laws.Placed.{nodes_stand}
use Rattle.core_node_laws.proofs.built_unit_laws.built_laws.laws.nodes_stand.Goals as goal

pub returns : goal.returns
returns c = nodes_stand
