use Rattle.covered_runs.proofs.touched_runs.called_frames.Steps.{step_layered}
use Rattle.covered_runs.proofs.touched_runs.called_frames.laws.step_layered.Goals as goal

pub returns : goal.returns
returns c = step_layered
