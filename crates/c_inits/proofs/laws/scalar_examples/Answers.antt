use Rattle.c_inits.proofs.Examples.{scalar_examples}
use Rattle.c_inits.proofs.laws.scalar_examples.Goals as goal

pub returns : goal.returns
returns c = scalar_examples
