use Rattle.c_inits.proofs.Onward.{across}
use Rattle.c_inits.proofs.laws.goes_across.Goals as goal

pub returns : goal.returns
returns c = across
