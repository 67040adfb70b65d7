use Rattle.valid_unit_laws.proofs.object_initialiser_laws.once_initialised.Whole.{initialised_once}
use Rattle.valid_unit_laws.proofs.object_initialiser_laws.once_initialised.laws.initialised_once.Goals as goal

pub returns : goal.returns
returns c = initialised_once
