use Rattle.core_node_laws.proofs.built_unit_laws.built_standing.Built.{statements_built}
use Rattle.core_node_laws.proofs.built_unit_laws.built_standing.laws.statements_built.Goals as goal

pub returns : goal.returns
returns c = λ tokens unit tree tag_number name u cut is built w entities sound rows bodies n node at.
    statements_built tokens unit tree tag_number name u cut is built w entities sound rows bodies n node at
