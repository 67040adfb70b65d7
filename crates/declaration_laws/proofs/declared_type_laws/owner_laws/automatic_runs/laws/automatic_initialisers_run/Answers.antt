use Rattle.declaration_laws.proofs.declared_type_laws.owner_laws.automatic_runs.Whole.{automatic_runs}
use Rattle.declaration_laws.proofs.declared_type_laws.owner_laws.automatic_runs.laws.automatic_initialisers_run.Goals as goal

pub returns : goal.returns
returns c = automatic_runs
