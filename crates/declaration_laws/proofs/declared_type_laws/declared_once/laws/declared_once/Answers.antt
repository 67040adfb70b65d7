use Rattle.declaration_laws.proofs.declared_type_laws.declared_once.Knowing.{declared_once}
use Rattle.declaration_laws.proofs.declared_type_laws.declared_once.laws.declared_once.Goals as goal

pub returns : goal.returns
returns c = declared_once
