use Rattle.valid_unit_laws.proofs.body_node_laws.parts_named.Known.{parts_known}
use Rattle.valid_unit_laws.proofs.body_node_laws.parts_named.laws.parts_known.Goals as goal

pub returns : goal.returns
returns c = λ tokens unit tree tag_number cut is p known. parts_known tokens unit tree tag_number cut is p known
