use Rattle.valid_unit_laws.proofs.body_node_laws.parts_initialise.Once.{units_initialise_once}
use Rattle.valid_unit_laws.proofs.body_node_laws.parts_initialise.laws.units_initialise_once.Goals as goal

pub returns : goal.returns
returns c = units_initialise_once
