use Rattle.linked_laws.proofs.location_laws.object_laws.Keys.{once}
use Rattle.linked_laws.proofs.location_laws.object_laws.laws.objects_once.Goals as goal

pub returns : goal.returns
returns c = once
