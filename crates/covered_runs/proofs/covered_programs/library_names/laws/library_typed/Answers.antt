use Rattle.covered_runs.proofs.covered_programs.library_names.Typed.{library_typed}
use Rattle.covered_runs.proofs.covered_programs.library_names.laws.library_typed.Goals as goal

pub returns : goal.returns
returns c = λ entered. library_typed {entered = entered}
