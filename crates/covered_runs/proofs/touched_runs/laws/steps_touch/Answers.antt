use Rattle.covered_runs.proofs.touched_runs.Frames.{steps_touch}
use Rattle.covered_runs.proofs.touched_runs.laws.steps_touch.Goals as goal

pub returns : goal.returns
returns c = steps_touch
