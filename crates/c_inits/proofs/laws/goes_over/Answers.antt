use Rattle.c_inits.proofs.Onward.{over}
use Rattle.c_inits.proofs.laws.goes_over.Goals as goal

pub returns : goal.returns
returns c = over
