use Rattle.declaration_laws.proofs.declared_type_laws.owner_laws.owned_laws.Owners.{owners_stand}
use Rattle.declaration_laws.proofs.declared_type_laws.owner_laws.owned_laws.laws.owners_stand.Goals as goal

pub returns : goal.returns
returns c = owners_stand
