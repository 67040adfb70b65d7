use Rattle.core_node_laws.proofs.built_unit_laws.built_standing.Built.{parameters_built}
use Rattle.core_node_laws.proofs.built_unit_laws.built_standing.laws.parameters_built.Goals as goal

pub returns : goal.returns
returns c = λ tokens unit tree tag_number name u cut is built e entity at storage.
    parameters_built tokens unit tree tag_number name u cut is built e entity at storage
