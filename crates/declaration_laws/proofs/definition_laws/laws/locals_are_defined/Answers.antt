use Rattle.declaration_laws.proofs.definition_laws.Locals.{locals}
use Rattle.declaration_laws.proofs.definition_laws.laws.locals_are_defined.Goals as goal

pub returns : goal.returns
returns c = locals
