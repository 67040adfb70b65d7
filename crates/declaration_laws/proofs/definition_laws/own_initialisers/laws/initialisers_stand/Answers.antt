use Rattle.declaration_laws.proofs.definition_laws.own_initialisers.Standing.{initialisers_stand}
use Rattle.declaration_laws.proofs.definition_laws.own_initialisers.laws.initialisers_stand.Goals as goal

pub returns : goal.returns
returns c = initialisers_stand
