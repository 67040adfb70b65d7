use Rattle.covered_runs.proofs.covered_steps.Steps.{steps_moved}
use Rattle.covered_runs.proofs.covered_steps.laws.steps_moved.Goals as goal

pub returns : goal.returns
returns c = steps_moved
