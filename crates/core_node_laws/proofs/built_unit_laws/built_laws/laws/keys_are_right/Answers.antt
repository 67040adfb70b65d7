use Rattle.core_node_laws.proofs.built_unit_laws.built_laws.Keys.{keyed}
use Rattle.core_node_laws.proofs.built_unit_laws.built_laws.laws.keys_are_right.Goals as goal

pub returns : goal.returns
returns c = keyed
