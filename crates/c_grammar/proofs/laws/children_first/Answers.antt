use Rattle.std.proofs.Common.{refl, Ok}
use Rattle.c_grammar.proofs.Order.{opens_keep}
use Rattle.c_grammar.proofs.laws.children_first.Goals as goal

pub returns : goal.returns
returns c = λ text tokens q d s t o. (opens_keep text tokens q d s (Ok t) o t refl).1
