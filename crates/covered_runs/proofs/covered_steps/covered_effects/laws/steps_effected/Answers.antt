use Rattle.covered_runs.proofs.covered_steps.covered_effects.Effects.{steps_effected}
use Rattle.covered_runs.proofs.covered_steps.covered_effects.laws.steps_effected.Goals as goal

pub returns : goal.returns
returns c = steps_effected
