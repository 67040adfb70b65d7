use Rattle.covered_runs.proofs.covered_steps.covered_calls.Results.{steps_given}
use Rattle.covered_runs.proofs.covered_steps.covered_calls.laws.steps_given.Goals as goal

pub returns : goal.returns
returns c = steps_given
