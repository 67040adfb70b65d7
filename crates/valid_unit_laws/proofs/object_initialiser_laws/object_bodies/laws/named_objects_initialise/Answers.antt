use Rattle.valid_unit_laws.proofs.object_initialiser_laws.object_bodies.Bodies.{named_objects_initialise}
use Rattle.valid_unit_laws.proofs.object_initialiser_laws.object_bodies.laws.named_objects_initialise.Goals as goal

pub returns : goal.returns
returns c = named_objects_initialise
