use Rattle.core_node_laws.proofs.built_unit_laws.lasting_literals.Lasting.{literals_last}
use Rattle.core_node_laws.proofs.built_unit_laws.lasting_literals.laws.literals_last.Goals as goal

pub returns : goal.returns
returns c = λ s senses numbering u grown made n node at e kind. literals_last s senses numbering u grown made n node at e kind
