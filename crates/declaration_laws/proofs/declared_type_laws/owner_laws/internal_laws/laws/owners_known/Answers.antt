use Rattle.declaration_laws.proofs.declared_type_laws.owner_laws.internal_laws.Reading.{owners_known}
use Rattle.declaration_laws.proofs.declared_type_laws.owner_laws.internal_laws.laws.owners_known.Goals as goal

pub returns : goal.returns
returns c = owners_known
