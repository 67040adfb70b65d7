use Rattle.covered_runs.proofs.covered_steps.covered_calls.Results.{results_given}
use Rattle.covered_runs.proofs.covered_steps.covered_calls.laws.results_given.Goals as goal

pub returns : goal.returns
returns c = results_given
