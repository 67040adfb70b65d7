use Rattle.c_inits.proofs.Onward.{up}
use Rattle.c_inits.proofs.laws.goes_up.Goals as goal

pub returns : goal.returns
returns c = up
