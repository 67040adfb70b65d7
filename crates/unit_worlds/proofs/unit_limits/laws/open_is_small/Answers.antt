use Rattle.unit_worlds.proofs.unit_limits.Staying.{open_small}
use Rattle.unit_worlds.proofs.unit_limits.laws.open_is_small.Goals as goal

pub returns : goal.returns
returns c = open_small
