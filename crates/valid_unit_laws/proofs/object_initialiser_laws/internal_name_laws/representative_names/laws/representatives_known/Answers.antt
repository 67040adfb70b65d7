use Rattle.valid_unit_laws.proofs.object_initialiser_laws.internal_name_laws.representative_names.Standing.{representatives_known}
use Rattle.valid_unit_laws.proofs.object_initialiser_laws.internal_name_laws.representative_names.laws.representatives_known.Goals as goal

pub returns : goal.returns
returns c = representatives_known
