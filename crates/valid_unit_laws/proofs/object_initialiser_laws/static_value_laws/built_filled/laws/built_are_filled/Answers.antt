use Rattle.valid_unit_laws.proofs.object_initialiser_laws.static_value_laws.built_filled.Filling.{built_are_filled}
use Rattle.valid_unit_laws.proofs.object_initialiser_laws.static_value_laws.built_filled.laws.built_are_filled.Goals as goal

pub returns : goal.returns
returns c = built_are_filled
