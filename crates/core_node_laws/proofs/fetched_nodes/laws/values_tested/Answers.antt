use Rattle.core_node_laws.proofs.fetched_nodes.Tested.{values_tested}
use Rattle.core_node_laws.proofs.fetched_nodes.laws.values_tested.Goals as goal

pub returns : goal.returns
returns c = values_tested
