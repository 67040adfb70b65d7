use Rattle.unit_worlds.proofs.unit_limits.Staying.{completing_small}
use Rattle.unit_worlds.proofs.unit_limits.laws.completing_stays_small.Goals as goal

pub returns : goal.returns
returns c = completing_small
