use Rattle.unit_worlds.proofs.unit_limits.Flags.{unions_built}
use Rattle.unit_worlds.proofs.unit_limits.laws.building_keeps_unions.Goals as goal

pub returns : goal.returns
returns c = unions_built
