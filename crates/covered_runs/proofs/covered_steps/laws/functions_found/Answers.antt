use Rattle.covered_runs.proofs.covered_steps.Named.{functions_found}
use Rattle.covered_runs.proofs.covered_steps.laws.functions_found.Goals as goal

pub returns : goal.returns
returns c = functions_found
