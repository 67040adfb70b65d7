use Rattle.declaration_laws.proofs.definition_laws.linkage_laws.Unlinked.{entities_unlinked}
use Rattle.declaration_laws.proofs.definition_laws.linkage_laws.laws.entities_unlinked.Goals as goal

pub returns : goal.returns
returns c = entities_unlinked
