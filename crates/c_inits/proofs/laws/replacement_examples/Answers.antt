use Rattle.c_inits.proofs.Examples.{replacement_examples}
use Rattle.c_inits.proofs.laws.replacement_examples.Goals as goal

pub returns : goal.returns
returns c = replacement_examples
