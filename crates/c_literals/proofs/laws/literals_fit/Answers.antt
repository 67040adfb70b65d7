use Rattle.c_literals.proofs.Literals.{fits}
use Rattle.c_literals.proofs.laws.literals_fit.Goals as goal

pub returns : goal.returns
returns c = fits
