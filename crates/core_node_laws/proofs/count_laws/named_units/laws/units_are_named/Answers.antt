use Rattle.core_node_laws.proofs.count_laws.named_units.Reading.{units_named}
use Rattle.core_node_laws.proofs.count_laws.named_units.laws.units_are_named.Goals as goal

pub returns : goal.returns
returns c = units_named
