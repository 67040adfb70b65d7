use Rattle.covered_runs.proofs.covered_steps.covered_effects.Reaching.{reached_covered}
use Rattle.covered_runs.proofs.covered_steps.covered_effects.laws.reached_covered.Goals as goal

pub returns : goal.returns
returns c = reached_covered
