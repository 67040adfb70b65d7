use Rattle.declaration_laws.proofs.definition_laws.earlier_initialisers.Coming.{initialisers_earlier}
use Rattle.declaration_laws.proofs.definition_laws.earlier_initialisers.laws.initialisers_earlier.Goals as goal

pub returns : goal.returns
returns c = initialisers_earlier
