use Rattle.c_literals.proofs.Readings.{readable}
use Rattle.c_literals.proofs.laws.readings_are_readable.Goals as goal

pub returns : goal.returns
returns c = readable
