use Rattle.unit_worlds.proofs.unit_limits.Staying.{building_small}
use Rattle.unit_worlds.proofs.unit_limits.laws.building_stays_small.Goals as goal

pub returns : goal.returns
returns c = building_small
