use Rattle.core_node_laws.proofs.built_unit_laws.parameter_bodies.Bare.{parameters_bare}
use Rattle.core_node_laws.proofs.built_unit_laws.parameter_bodies.laws.parameters_bare.Goals as goal

pub returns : goal.returns
returns c = λ s senses numbering u grown made e entity at storage. parameters_bare s senses numbering u grown made e entity at storage
