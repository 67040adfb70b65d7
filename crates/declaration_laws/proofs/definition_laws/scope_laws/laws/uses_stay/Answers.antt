use Rattle.declaration_laws.proofs.definition_laws.scope_laws.Whole.{uses_stay}
use Rattle.declaration_laws.proofs.definition_laws.scope_laws.laws.uses_stay.Goals as goal

pub returns : goal.returns
returns c = uses_stay
