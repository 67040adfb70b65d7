use Rattle.c_inits.proofs.Examples.{union_examples}
use Rattle.c_inits.proofs.laws.union_examples.Goals as goal

pub returns : goal.returns
returns c = union_examples
