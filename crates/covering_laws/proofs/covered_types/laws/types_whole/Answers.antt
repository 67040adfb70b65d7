use Rattle.covering_laws.proofs.covered_types.Whole.{types_whole}
use Rattle.covering_laws.proofs.covered_types.laws.types_whole.Goals as goal

pub returns : goal.returns
returns c p valid made few = types_whole p valid made few
