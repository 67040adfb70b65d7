use Rattle.valid_unit_laws.proofs.object_initialiser_laws.initial_entities.Rows.{initialisers_own}
use Rattle.valid_unit_laws.proofs.object_initialiser_laws.initial_entities.laws.initialisers_own.Goals as goal

pub returns : goal.returns
returns c = initialisers_own
