use Rattle.valid_unit_laws.proofs.object_initialiser_laws.internal_name_laws.internal_types.Reading.{entity_types_known}
use Rattle.valid_unit_laws.proofs.object_initialiser_laws.internal_name_laws.internal_types.laws.entity_types_known.Goals as goal

pub returns : goal.returns
returns c = entity_types_known
