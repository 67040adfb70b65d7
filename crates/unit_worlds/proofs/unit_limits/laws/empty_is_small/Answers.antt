use Rattle.unit_worlds.proofs.unit_limits.Staying.{empty_small}
use Rattle.unit_worlds.proofs.unit_limits.laws.empty_is_small.Goals as goal

pub returns : goal.returns
returns c = empty_small
