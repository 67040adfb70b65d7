use Rattle.declaration_laws.proofs.declared_type_laws.owner_laws.around_runs.Whole.{initialisers_stand}
use Rattle.declaration_laws.proofs.declared_type_laws.owner_laws.around_runs.laws.initialisers_stand.Goals as goal

pub returns : goal.returns
returns c = initialisers_stand
