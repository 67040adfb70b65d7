use Rattle.c_lexer.proofs.OneCut.{stand}
use Rattle.c_lexer.proofs.laws.tokens_stand.Goals as goal

pub returns : goal.returns
returns c = stand
