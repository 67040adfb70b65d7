use Rattle.declaration_laws.proofs.definition_laws.initialiser_laws.Found.{initialisers_found}
use Rattle.declaration_laws.proofs.definition_laws.initialiser_laws.laws.initialisers_found.Goals as goal

pub returns : goal.returns
returns c = initialisers_found
