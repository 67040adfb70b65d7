use Rattle.valid_unit_laws.proofs.specified_types.Specified.{types_specified}
use Rattle.valid_unit_laws.proofs.specified_types.laws.types_specified.Goals as goal

pub returns : goal.returns
returns c = types_specified
