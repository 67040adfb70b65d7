use Rattle.covered_runs.proofs.covered_steps.Placed.{entities_placed}
use Rattle.covered_runs.proofs.covered_steps.laws.entities_placed.Goals as goal

pub returns : goal.returns
returns c = entities_placed
