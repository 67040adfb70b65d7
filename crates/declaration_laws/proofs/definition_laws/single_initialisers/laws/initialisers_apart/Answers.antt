use Rattle.declaration_laws.proofs.definition_laws.single_initialisers.Apart.{initialisers_apart}
use Rattle.declaration_laws.proofs.definition_laws.single_initialisers.laws.initialisers_apart.Goals as goal

pub returns : goal.returns
returns c = initialisers_apart
