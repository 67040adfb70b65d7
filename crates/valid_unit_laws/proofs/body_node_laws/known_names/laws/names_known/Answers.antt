use Rattle.valid_unit_laws.proofs.body_node_laws.known_names.Whole.{names_known}
use Rattle.valid_unit_laws.proofs.body_node_laws.known_names.laws.names_known.Goals as goal

pub returns : goal.returns
returns c = names_known
