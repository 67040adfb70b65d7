use Rattle.covered_runs.proofs.covered_steps.covered_values.Passed.{choices_covered}
use Rattle.covered_runs.proofs.covered_steps.covered_values.laws.choices_covered.Goals as goal

pub returns : goal.returns
returns c world memory n node d a b v stands there kind children = choices_covered world memory n node d a b v stands there kind children
