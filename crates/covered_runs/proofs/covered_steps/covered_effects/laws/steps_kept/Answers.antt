use Rattle.covered_runs.proofs.covered_steps.covered_effects.Ending.{steps_kept}
use Rattle.covered_runs.proofs.covered_steps.covered_effects.laws.steps_kept.Goals as goal

pub returns : goal.returns
returns c = steps_kept
