use Rattle.declaration_laws.proofs.agreed_types.Agreeing.{types_agreed}
use Rattle.declaration_laws.proofs.agreed_types.laws.types_agreed.Goals as goal

pub returns : goal.returns
returns c = types_agreed
