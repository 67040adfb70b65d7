use Rattle.declaration_laws.proofs.declared_type_laws.owned_locals.Reading.{right_linked}
use Rattle.declaration_laws.proofs.declared_type_laws.owned_locals.laws.right_bodies_linked.Goals as goal

pub returns : goal.returns
returns c = right_linked
