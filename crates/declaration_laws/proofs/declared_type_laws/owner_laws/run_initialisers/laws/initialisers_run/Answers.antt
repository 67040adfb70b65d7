use Rattle.declaration_laws.proofs.declared_type_laws.owner_laws.run_initialisers.Whole.{units_run_initialisers}
use Rattle.declaration_laws.proofs.declared_type_laws.owner_laws.run_initialisers.laws.initialisers_run.Goals as goal

pub returns : goal.returns
returns c = units_run_initialisers
