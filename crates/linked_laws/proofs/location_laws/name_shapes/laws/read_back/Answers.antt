use Rattle.linked_laws.proofs.location_laws.name_shapes.Shapes.{read_back}
use Rattle.linked_laws.proofs.location_laws.name_shapes.laws.read_back.Goals as goal

pub returns : goal.returns
returns c = read_back
