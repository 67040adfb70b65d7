use Rattle.valid_unit_laws.proofs.object_initialiser_laws.internal_name_laws.internal_names.Reading.{internals_fit}
use Rattle.valid_unit_laws.proofs.object_initialiser_laws.internal_name_laws.internal_names.laws.internals_fit.Goals as goal

pub returns : goal.returns
returns c = internals_fit
