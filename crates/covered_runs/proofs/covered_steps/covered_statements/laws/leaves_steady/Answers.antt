use Rattle.covered_runs.proofs.covered_steps.covered_statements.Leaving.{leaves_steady}
use Rattle.covered_runs.proofs.covered_steps.covered_statements.laws.leaves_steady.Goals as goal

pub returns : goal.returns
returns c = leaves_steady
