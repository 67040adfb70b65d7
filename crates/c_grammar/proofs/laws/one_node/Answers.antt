use Rattle.std.proofs.Common.{refl, Ok}
use Rattle.c_grammar.proofs.Order.{opens_end}
use Rattle.c_grammar.proofs.laws.one_node.Goals as goal

pub returns : goal.returns
returns c = λ text tokens q d s t n o. opens_end text tokens q d s (Ok t) n o t refl
