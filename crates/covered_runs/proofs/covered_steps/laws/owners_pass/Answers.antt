use Rattle.covered_runs.proofs.covered_steps.Owned.{owners_pass}
use Rattle.covered_runs.proofs.covered_steps.laws.owners_pass.Goals as goal

pub returns : goal.returns
returns c = owners_pass
