use Rattle.limit_laws.proofs.Limited.{units_limited}
use Rattle.limit_laws.proofs.laws.units_are_limited.Goals as goal

pub returns : goal.returns
returns c = units_limited
