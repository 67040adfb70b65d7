use Rattle.declaration_laws.proofs.declared_type_laws.owner_laws.Whole.{owners_built}
use Rattle.declaration_laws.proofs.declared_type_laws.owner_laws.laws.owners_built.Goals as goal

pub returns : goal.returns
returns c = owners_built
