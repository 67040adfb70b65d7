use Rattle.c_inits.proofs.Examples.{structure_examples}
use Rattle.c_inits.proofs.laws.structure_examples.Goals as goal

pub returns : goal.returns
returns c = structure_examples
