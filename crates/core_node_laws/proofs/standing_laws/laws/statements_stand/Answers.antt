use Rattle.core_node_laws.proofs.standing_laws.Whole.{statements_stand}
use Rattle.core_node_laws.proofs.standing_laws.laws.statements_stand.Goals as goal

pub returns : goal.returns
returns c = λ s senses numbering u grown made runs rows bodies n node at. statements_stand s senses numbering u grown made runs rows bodies n node at
