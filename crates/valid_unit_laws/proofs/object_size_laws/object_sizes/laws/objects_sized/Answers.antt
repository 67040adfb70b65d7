use Rattle.valid_unit_laws.proofs.object_size_laws.object_sizes.Sizes.{objects_sized}
use Rattle.valid_unit_laws.proofs.object_size_laws.object_sizes.laws.objects_sized.Goals as goal

pub returns : goal.returns
returns c = objects_sized
