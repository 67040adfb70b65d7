use Rattle.covered_runs.proofs.covered_steps.covered_values.Computed.{values_covered}
use Rattle.covered_runs.proofs.covered_steps.covered_values.laws.values_covered.Goals as goal

pub returns : goal.returns
returns c world memory own n node values word e stands all there each may x = values_covered world memory own n node values word e stands all there each may x
