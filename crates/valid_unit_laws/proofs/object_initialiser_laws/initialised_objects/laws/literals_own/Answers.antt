use Rattle.valid_unit_laws.proofs.object_initialiser_laws.initialised_objects.Literals.{literals_own}
use Rattle.valid_unit_laws.proofs.object_initialiser_laws.initialised_objects.laws.literals_own.Goals as goal

pub returns : goal.returns
returns c = literals_own
