use Rattle.covered_runs.proofs.covered_steps.covered_statements.Founded.{runnable_met}
use Rattle.covered_runs.proofs.covered_steps.covered_statements.laws.runnable_met.Goals as goal

pub returns : goal.returns
returns c = runnable_met
