use Rattle.core_node_laws.proofs.built_unit_laws.built_laws.Uses.{uses_right}
use Rattle.core_node_laws.proofs.built_unit_laws.built_laws.laws.uses_are_right.Goals as goal

pub returns : goal.returns
returns c = uses_right
