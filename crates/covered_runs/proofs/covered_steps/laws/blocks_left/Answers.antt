use Rattle.covered_runs.proofs.covered_steps.Frames.{blocks_left}
use Rattle.covered_runs.proofs.covered_steps.laws.blocks_left.Goals as goal

pub returns : goal.returns
returns c = blocks_left
