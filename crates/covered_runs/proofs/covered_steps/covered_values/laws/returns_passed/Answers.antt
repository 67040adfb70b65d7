use Rattle.covered_runs.proofs.covered_steps.covered_values.Passed.{returns_passed}
use Rattle.covered_runs.proofs.covered_steps.covered_values.laws.returns_passed.Goals as goal

pub returns : goal.returns
returns c world memory n node v f value stands there kind children owned ty h = returns_passed world memory n node v f value stands there kind children owned ty h
