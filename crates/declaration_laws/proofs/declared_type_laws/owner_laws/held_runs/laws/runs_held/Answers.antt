use Rattle.declaration_laws.proofs.declared_type_laws.owner_laws.held_runs.Whole.{runs_are_held}
use Rattle.declaration_laws.proofs.declared_type_laws.owner_laws.held_runs.laws.runs_held.Goals as goal

pub returns : goal.returns
returns c = runs_are_held
