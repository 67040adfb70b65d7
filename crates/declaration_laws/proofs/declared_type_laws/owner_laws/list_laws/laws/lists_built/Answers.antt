use Rattle.declaration_laws.proofs.declared_type_laws.owner_laws.list_laws.Whole.{lists_built}
use Rattle.declaration_laws.proofs.declared_type_laws.owner_laws.list_laws.laws.lists_built.Goals as goal

pub returns : goal.returns
returns c = lists_built
