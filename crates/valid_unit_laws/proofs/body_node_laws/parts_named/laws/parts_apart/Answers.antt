use Rattle.valid_unit_laws.proofs.body_node_laws.parts_named.Apart.{parts_apart}
use Rattle.valid_unit_laws.proofs.body_node_laws.parts_named.laws.parts_apart.Goals as goal

pub returns : goal.returns
returns c = λ tokens unit tree tag_number cut is p. parts_apart tokens unit tree tag_number cut is p
