use Rattle.c_inits.proofs.Examples.{text_examples}
use Rattle.c_inits.proofs.laws.text_examples.Goals as goal

pub returns : goal.returns
returns c = text_examples
