use Rattle.valid_unit_laws.proofs.object_initialiser_laws.owned_initialisers.Whole.{initialisers_owned}
use Rattle.valid_unit_laws.proofs.object_initialiser_laws.owned_initialisers.laws.initialisers_owned.Goals as goal

pub returns : goal.returns
returns c = initialisers_owned
