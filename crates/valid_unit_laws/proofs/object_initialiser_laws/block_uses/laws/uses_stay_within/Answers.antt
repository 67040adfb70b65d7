use Rattle.valid_unit_laws.proofs.object_initialiser_laws.block_uses.Whole.{uses_stay_within}
use Rattle.valid_unit_laws.proofs.object_initialiser_laws.block_uses.laws.uses_stay_within.Goals as goal

pub returns : goal.returns
returns c = uses_stay_within
