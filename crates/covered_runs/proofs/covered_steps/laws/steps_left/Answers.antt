use Rattle.covered_runs.proofs.covered_steps.Frames.{steps_left}
use Rattle.covered_runs.proofs.covered_steps.laws.steps_left.Goals as goal

pub returns : goal.returns
returns c = steps_left
