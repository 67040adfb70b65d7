use Rattle.declaration_laws.proofs.declared_type_laws.owner_laws.internal_laws.Reading.{definitions_known}
use Rattle.declaration_laws.proofs.declared_type_laws.owner_laws.internal_laws.laws.definitions_known.Goals as goal

pub returns : goal.returns
returns c = definitions_known
