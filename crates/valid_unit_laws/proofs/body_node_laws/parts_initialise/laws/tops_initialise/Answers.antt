use Rattle.valid_unit_laws.proofs.body_node_laws.parts_initialise.Whole.{tops_initialise}
use Rattle.valid_unit_laws.proofs.body_node_laws.parts_initialise.laws.tops_initialise.Goals as goal

pub returns : goal.returns
returns c = tops_initialise
