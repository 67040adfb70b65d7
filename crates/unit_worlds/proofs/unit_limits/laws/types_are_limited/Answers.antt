use Rattle.unit_worlds.proofs.unit_limits.Within.{types_limited}
use Rattle.unit_worlds.proofs.unit_limits.laws.types_are_limited.Goals as goal

pub returns : goal.returns
returns c = types_limited
