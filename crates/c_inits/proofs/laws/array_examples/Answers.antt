use Rattle.c_inits.proofs.Examples.{array_examples}
use Rattle.c_inits.proofs.laws.array_examples.Goals as goal

pub returns : goal.returns
returns c = array_examples
