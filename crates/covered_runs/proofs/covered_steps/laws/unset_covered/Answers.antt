use Rattle.covered_runs.proofs.covered_steps.Made.{unset_covered}
use Rattle.covered_runs.proofs.covered_steps.laws.unset_covered.Goals as goal

pub returns : goal.returns
returns c = unset_covered
