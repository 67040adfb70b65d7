use Rattle.c_lexer.proofs.OneCut.{one_cut}
use Rattle.c_lexer.proofs.laws.one_cutting.Goals as goal

pub returns : goal.returns
returns c = one_cut
