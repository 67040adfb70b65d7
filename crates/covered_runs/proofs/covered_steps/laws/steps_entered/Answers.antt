use Rattle.covered_runs.proofs.covered_steps.Frames.{steps_entered}
use Rattle.covered_runs.proofs.covered_steps.laws.steps_entered.Goals as goal

pub returns : goal.returns
returns c = steps_entered
