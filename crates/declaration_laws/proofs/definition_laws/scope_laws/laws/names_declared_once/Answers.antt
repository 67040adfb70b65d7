use Rattle.declaration_laws.proofs.definition_laws.scope_laws.Whole.{names_declared_once}
use Rattle.declaration_laws.proofs.definition_laws.scope_laws.laws.names_declared_once.Goals as goal

pub returns : goal.returns
returns c = names_declared_once
