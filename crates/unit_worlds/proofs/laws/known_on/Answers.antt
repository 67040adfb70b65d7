use Rattle.unit_worlds.proofs.Worlds.{known_one}
use Rattle.unit_worlds.proofs.laws.known_on.Goals as goal

pub returns : goal.returns
returns c = known_one
