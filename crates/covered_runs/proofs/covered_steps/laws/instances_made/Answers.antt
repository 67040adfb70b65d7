use Rattle.covered_runs.proofs.covered_steps.Made.{instances_made}
use Rattle.covered_runs.proofs.covered_steps.laws.instances_made.Goals as goal

pub returns : goal.returns
returns c = instances_made
