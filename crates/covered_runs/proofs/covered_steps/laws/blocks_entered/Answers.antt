use Rattle.covered_runs.proofs.covered_steps.Frames.{blocks_entered}
use Rattle.covered_runs.proofs.covered_steps.laws.blocks_entered.Goals as goal

pub returns : goal.returns
returns c = blocks_entered
