use Rattle.valid_unit_laws.proofs.body_node_laws.parts_named.Owners.{parts_owned}
use Rattle.valid_unit_laws.proofs.body_node_laws.parts_named.laws.parts_owned.Goals as goal

pub returns : goal.returns
returns c = λ tokens unit tree tag_number cut is p. parts_owned tokens unit tree tag_number cut is p
