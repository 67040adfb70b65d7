use Rattle.covered_runs.proofs.touched_runs.called_frames.Runs.{runs_layered}
use Rattle.covered_runs.proofs.touched_runs.called_frames.laws.runs_layered.Goals as goal

pub returns : goal.returns
returns c = runs_layered
