use Rattle.valid_unit_laws.proofs.object_initialiser_laws.static_value_laws.fixed_laws.Whole.{fixed_whole}
use Rattle.valid_unit_laws.proofs.object_initialiser_laws.static_value_laws.fixed_laws.laws.fixed_whole.Goals as goal

pub returns : goal.returns
returns c = fixed_whole
