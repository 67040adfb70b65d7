use Rattle.declaration_laws.proofs.declared_type_laws.known_entities.Further.{further_found}
use Rattle.declaration_laws.proofs.declared_type_laws.known_entities.laws.further_found.Goals as goal

pub returns : goal.returns
returns c = further_found
