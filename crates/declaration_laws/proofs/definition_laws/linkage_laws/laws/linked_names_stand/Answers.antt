use Rattle.declaration_laws.proofs.definition_laws.linkage_laws.Reading.{linked_stand}
use Rattle.declaration_laws.proofs.definition_laws.linkage_laws.laws.linked_names_stand.Goals as goal

pub returns : goal.returns
returns c = linked_stand
