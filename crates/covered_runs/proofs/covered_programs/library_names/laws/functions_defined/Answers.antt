use Rattle.covered_runs.proofs.covered_programs.library_names.Naming.{functions_defined}
use Rattle.covered_runs.proofs.covered_programs.library_names.laws.functions_defined.Goals as goal

pub returns : goal.returns
returns c = λ entered. functions_defined {entered = entered}
