use Rattle.c_initialise.proofs.initial_paths.Standing.{initials_within}
use Rattle.c_initialise.proofs.initial_paths.laws.initials_within.Goals as goal

pub returns : goal.returns
returns c = initials_within
