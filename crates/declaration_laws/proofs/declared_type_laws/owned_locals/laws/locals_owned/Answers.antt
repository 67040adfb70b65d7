use Rattle.declaration_laws.proofs.declared_type_laws.owned_locals.Reading.{locals_owned}
use Rattle.declaration_laws.proofs.declared_type_laws.owned_locals.laws.locals_owned.Goals as goal

pub returns : goal.returns
returns c = locals_owned
