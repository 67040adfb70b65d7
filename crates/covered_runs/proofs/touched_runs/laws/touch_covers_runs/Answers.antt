use Rattle.covered_runs.proofs.touched_runs.Runs.{touch_covers_runs}
use Rattle.covered_runs.proofs.touched_runs.laws.touch_covers_runs.Goals as goal

pub returns : goal.returns
returns c = touch_covers_runs
