use Rattle.declaration_laws.proofs.declared_type_laws.owned_locals.Reading.{right_owned}
use Rattle.declaration_laws.proofs.declared_type_laws.owned_locals.laws.right_locals_owned.Goals as goal

pub returns : goal.returns
returns c = right_owned
