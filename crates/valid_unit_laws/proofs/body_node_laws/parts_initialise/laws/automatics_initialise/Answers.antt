use Rattle.valid_unit_laws.proofs.body_node_laws.parts_initialise.Whole.{automatics_initialise}
use Rattle.valid_unit_laws.proofs.body_node_laws.parts_initialise.laws.automatics_initialise.Goals as goal

pub returns : goal.returns
returns c = automatics_initialise
