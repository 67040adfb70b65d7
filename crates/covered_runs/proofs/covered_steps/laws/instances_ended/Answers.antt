use Rattle.covered_runs.proofs.covered_steps.Made.{instances_ended}
use Rattle.covered_runs.proofs.covered_steps.laws.instances_ended.Goals as goal

pub returns : goal.returns
returns c = instances_ended
