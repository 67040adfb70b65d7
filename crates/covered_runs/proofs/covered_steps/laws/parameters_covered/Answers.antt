use Rattle.covered_runs.proofs.covered_steps.Made.{parameters_covered}
use Rattle.covered_runs.proofs.covered_steps.laws.parameters_covered.Goals as goal

pub returns : goal.returns
returns c = parameters_covered
