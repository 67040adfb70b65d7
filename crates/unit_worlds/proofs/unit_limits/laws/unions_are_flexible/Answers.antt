use Rattle.unit_worlds.proofs.unit_limits.Flags.{unions_flexible}
use Rattle.unit_worlds.proofs.unit_limits.laws.unions_are_flexible.Goals as goal

pub returns : goal.returns
returns c = unions_flexible
