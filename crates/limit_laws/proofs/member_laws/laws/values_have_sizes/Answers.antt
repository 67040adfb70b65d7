use Rattle.limit_laws.proofs.member_laws.Measured.{values_have_sizes}
use Rattle.limit_laws.proofs.member_laws.laws.values_have_sizes.Goals as goal

pub returns : goal.returns
returns c = values_have_sizes
