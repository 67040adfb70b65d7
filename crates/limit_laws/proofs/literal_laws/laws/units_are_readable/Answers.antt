use Rattle.limit_laws.proofs.literal_laws.Readable.{units_readable}
use Rattle.limit_laws.proofs.literal_laws.laws.units_are_readable.Goals as goal

pub returns : goal.returns
returns c = units_readable
