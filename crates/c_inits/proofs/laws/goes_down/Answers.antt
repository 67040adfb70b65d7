use Rattle.c_inits.proofs.Onward.{down}
use Rattle.c_inits.proofs.laws.goes_down.Goals as goal

pub returns : goal.returns
returns c = down
