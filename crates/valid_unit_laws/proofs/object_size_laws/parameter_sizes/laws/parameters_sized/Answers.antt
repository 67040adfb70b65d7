use Rattle.valid_unit_laws.proofs.object_size_laws.parameter_sizes.Sizes.{parameters_sized}
use Rattle.valid_unit_laws.proofs.object_size_laws.parameter_sizes.laws.parameters_sized.Goals as goal

pub returns : goal.returns
returns c = parameters_sized
