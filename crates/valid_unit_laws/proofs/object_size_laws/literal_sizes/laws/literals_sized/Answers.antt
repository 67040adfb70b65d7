use Rattle.valid_unit_laws.proofs.object_size_laws.literal_sizes.Sizes.{literals_sized}
use Rattle.valid_unit_laws.proofs.object_size_laws.literal_sizes.laws.literals_sized.Goals as goal

pub returns : goal.returns
returns c = literals_sized
