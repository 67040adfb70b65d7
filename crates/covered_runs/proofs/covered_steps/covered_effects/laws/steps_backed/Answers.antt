use Rattle.covered_runs.proofs.covered_steps.covered_effects.Backed.{steps_backed}
use Rattle.covered_runs.proofs.covered_steps.covered_effects.laws.steps_backed.Goals as goal

pub returns : goal.returns
returns c = steps_backed
