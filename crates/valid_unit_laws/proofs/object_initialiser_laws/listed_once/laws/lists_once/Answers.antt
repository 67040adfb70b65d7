use Rattle.valid_unit_laws.proofs.object_initialiser_laws.listed_once.Whole.{lists_once}
use Rattle.valid_unit_laws.proofs.object_initialiser_laws.listed_once.laws.lists_once.Goals as goal

pub returns : goal.returns
returns c = lists_once
