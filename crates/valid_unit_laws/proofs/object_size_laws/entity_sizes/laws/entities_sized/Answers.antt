use Rattle.valid_unit_laws.proofs.object_size_laws.entity_sizes.Whole.{entities_sized}
use Rattle.valid_unit_laws.proofs.object_size_laws.entity_sizes.laws.entities_sized.Goals as goal

pub returns : goal.returns
returns c = entities_sized
