use Rattle.valid_unit_laws.proofs.object_initialiser_laws.initialised_objects.Initials.{initials_are_objects}
use Rattle.valid_unit_laws.proofs.object_initialiser_laws.initialised_objects.laws.initials_are_objects.Goals as goal

pub returns : goal.returns
returns c = initials_are_objects
