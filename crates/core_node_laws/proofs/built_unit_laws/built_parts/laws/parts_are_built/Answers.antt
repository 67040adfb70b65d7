use Rattle.core_node_laws.proofs.built_unit_laws.built_parts.Building.{parts_built}
use Rattle.core_node_laws.proofs.built_unit_laws.built_parts.laws.parts_are_built.Goals as goal

pub returns : goal.returns
returns c = parts_built
