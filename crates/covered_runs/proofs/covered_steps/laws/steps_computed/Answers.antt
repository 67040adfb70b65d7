use Rattle.covered_runs.proofs.covered_steps.Steps.{steps_computed}
use Rattle.covered_runs.proofs.covered_steps.laws.steps_computed.Goals as goal

pub returns : goal.returns
returns c = steps_computed
