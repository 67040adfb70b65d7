use Rattle.linked_laws.proofs.embedded_laws.Whole.{linked_trees}
use Rattle.linked_laws.proofs.embedded_laws.laws.linked_trees.Goals as goal

pub returns : goal.returns
returns c = λ names. linked_trees {names = names}
