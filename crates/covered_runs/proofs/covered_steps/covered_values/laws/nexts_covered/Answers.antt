use Rattle.covered_runs.proofs.covered_steps.covered_values.Nexts.{nexts_covered}
use Rattle.covered_runs.proofs.covered_steps.covered_values.laws.nexts_covered.Goals as goal

pub returns : goal.returns
returns c world memory after n p node place value e stands all there kind children at next given =
    nexts_covered world memory after n p node place value e stands all there kind children at next given
