use Rattle.declaration_laws.proofs.definition_laws.scope_laws.Whole.{linked_names}
use Rattle.declaration_laws.proofs.definition_laws.scope_laws.laws.linked_names.Goals as goal

pub returns : goal.returns
returns c = linked_names
