use Rattle.declaration_laws.proofs.joined_types.Joining.{types_joined}
use Rattle.declaration_laws.proofs.joined_types.laws.types_joined.Goals as goal

pub returns : goal.returns
returns c = types_joined
