use Rattle.declaration_laws.proofs.declared_type_laws.declared_uses.Reading.{uses_declared}
use Rattle.declaration_laws.proofs.declared_type_laws.declared_uses.laws.uses_declared.Goals as goal

pub returns : goal.returns
returns c = uses_declared
