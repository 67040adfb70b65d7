use Rattle.covered_runs.proofs.covered_steps.covered_calls.Handed.{steps_handed}
use Rattle.covered_runs.proofs.covered_steps.covered_calls.laws.steps_handed.Goals as goal

pub returns : goal.returns
returns c = steps_handed
