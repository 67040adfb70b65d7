use Rattle.linked_laws.proofs.location_laws.object_laws.Located.{of_one}
use Rattle.linked_laws.proofs.location_laws.object_laws.laws.of_one_object.Goals as goal

pub returns : goal.returns
returns c = of_one
