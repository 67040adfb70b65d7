use Rattle.covered_runs.proofs.covered_steps.covered_effects.Reaching.{steps_pended}
use Rattle.covered_runs.proofs.covered_steps.covered_effects.laws.steps_pended.Goals as goal

pub returns : goal.returns
returns c = steps_pended
