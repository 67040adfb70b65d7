use Rattle.valid_unit_laws.proofs.body_node_laws.known_initials.Whole.{initials_known}
use Rattle.valid_unit_laws.proofs.body_node_laws.known_initials.laws.initials_known.Goals as goal

pub returns : goal.returns
returns c = initials_known
