use Rattle.covered_runs.proofs.covered_steps.covered_calls.Activations.{activations_covered}
use Rattle.covered_runs.proofs.covered_steps.covered_calls.laws.activations_covered.Goals as goal

pub returns : goal.returns
returns c = activations_covered
