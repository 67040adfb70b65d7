use Rattle.valid_unit_laws.proofs.body_node_laws.raised_parts.Whole.{parts_once}
use Rattle.valid_unit_laws.proofs.body_node_laws.raised_parts.laws.parts_initialise_once.Goals as goal

pub returns : goal.returns
returns c = parts_once
