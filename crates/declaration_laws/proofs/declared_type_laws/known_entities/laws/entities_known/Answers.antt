use Rattle.declaration_laws.proofs.declared_type_laws.known_entities.Known.{entities_known}
use Rattle.declaration_laws.proofs.declared_type_laws.known_entities.laws.entities_known.Goals as goal

pub returns : goal.returns
returns c = entities_known
