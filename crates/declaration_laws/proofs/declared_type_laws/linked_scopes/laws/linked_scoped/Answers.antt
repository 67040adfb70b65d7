use Rattle.declaration_laws.proofs.declared_type_laws.linked_scopes.Reading.{linked_scoped}
use Rattle.declaration_laws.proofs.declared_type_laws.linked_scopes.laws.linked_scoped.Goals as goal

pub returns : goal.returns
returns c = linked_scoped
