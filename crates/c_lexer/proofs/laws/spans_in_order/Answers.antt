use Rattle.c_lexer.proofs.OneCut.{ordered}
use Rattle.c_lexer.proofs.laws.spans_in_order.Goals as goal

pub returns : goal.returns
returns c = ordered
