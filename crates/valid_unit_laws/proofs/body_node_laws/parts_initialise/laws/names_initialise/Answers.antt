use Rattle.valid_unit_laws.proofs.body_node_laws.parts_initialise.Lasting.{names_initialise}
use Rattle.valid_unit_laws.proofs.body_node_laws.parts_initialise.laws.names_initialise.Goals as goal

pub returns : goal.returns
returns c = names_initialise
