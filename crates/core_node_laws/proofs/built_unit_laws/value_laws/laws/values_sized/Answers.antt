use Rattle.core_node_laws.proofs.built_unit_laws.value_laws.Values.{values_sized}
use Rattle.core_node_laws.proofs.built_unit_laws.value_laws.laws.values_sized.Goals as goal

pub returns : goal.returns
returns c = values_sized
