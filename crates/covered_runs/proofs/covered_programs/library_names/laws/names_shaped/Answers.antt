use Rattle.covered_runs.proofs.covered_programs.library_names.Naming.{names_shaped}
use Rattle.covered_runs.proofs.covered_programs.library_names.laws.names_shaped.Goals as goal

pub returns : goal.returns
returns c = λ entered. names_shaped {entered = entered}
