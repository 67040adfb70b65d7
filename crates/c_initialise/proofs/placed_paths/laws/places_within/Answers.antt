use Rattle.c_initialise.proofs.placed_paths.Lasting.{places_within}
use Rattle.c_initialise.proofs.placed_paths.laws.places_within.Goals as goal

pub returns : goal.returns
returns c = places_within
