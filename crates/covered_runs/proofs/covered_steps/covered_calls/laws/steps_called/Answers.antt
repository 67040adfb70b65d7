use Rattle.covered_runs.proofs.covered_steps.covered_calls.Entering.{steps_called}
use Rattle.covered_runs.proofs.covered_steps.covered_calls.laws.steps_called.Goals as goal

pub returns : goal.returns
returns c = steps_called
