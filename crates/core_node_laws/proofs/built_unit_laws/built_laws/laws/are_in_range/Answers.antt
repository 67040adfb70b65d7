use Rattle.core_node_laws.proofs.built_unit_laws.built_laws.Range.{in_range}
use Rattle.core_node_laws.proofs.built_unit_laws.built_laws.laws.are_in_range.Goals as goal

pub returns : goal.returns
returns c = in_range
