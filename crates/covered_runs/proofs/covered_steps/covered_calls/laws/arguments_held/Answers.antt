use Rattle.covered_runs.proofs.covered_steps.covered_calls.Entering.{arguments_held}
use Rattle.covered_runs.proofs.covered_steps.covered_calls.laws.arguments_held.Goals as goal

pub returns : goal.returns
returns c = arguments_held
