use Rattle.covered_runs.proofs.covered_steps.covered_statements.Calling.{calls_steady}
use Rattle.covered_runs.proofs.covered_steps.covered_statements.laws.calls_steady.Goals as goal

pub returns : goal.returns
returns c = calls_steady
