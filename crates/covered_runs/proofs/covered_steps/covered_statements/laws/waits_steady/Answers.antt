use Rattle.covered_runs.proofs.covered_steps.covered_statements.Nodes.{waits_steady}
use Rattle.covered_runs.proofs.covered_steps.covered_statements.laws.waits_steady.Goals as goal

pub returns : goal.returns
returns c = waits_steady
