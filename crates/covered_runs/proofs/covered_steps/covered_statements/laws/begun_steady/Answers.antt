use Rattle.covered_runs.proofs.covered_steps.covered_statements.Nodes.{begun_steady}
use Rattle.covered_runs.proofs.covered_steps.covered_statements.laws.begun_steady.Goals as goal

pub returns : goal.returns
returns c = begun_steady
