use Rattle.valid_unit_laws.proofs.object_initialiser_laws.internal_name_laws.internal_types.Reading.{internals_initialised}
use Rattle.valid_unit_laws.proofs.object_initialiser_laws.internal_name_laws.internal_types.laws.internals_initialised.Goals as goal

pub returns : goal.returns
returns c = internals_initialised
