use Rattle.declaration_laws.proofs.declared_type_laws.settled_types.Settling.{types_settled}
use Rattle.declaration_laws.proofs.declared_type_laws.settled_types.laws.types_settled.Goals as goal

pub returns : goal.returns
returns c = types_settled
