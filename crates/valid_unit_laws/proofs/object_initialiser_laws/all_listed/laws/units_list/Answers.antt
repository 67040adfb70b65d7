use Rattle.valid_unit_laws.proofs.object_initialiser_laws.all_listed.Whole.{units_list}
use Rattle.valid_unit_laws.proofs.object_initialiser_laws.all_listed.laws.units_list.Goals as goal

pub returns : goal.returns
returns c = units_list
