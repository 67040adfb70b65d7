use Rattle.covered_runs.proofs.machine_sound.covered_start.Filled.{start_steady}
use Rattle.covered_runs.proofs.machine_sound.covered_start.laws.start_steady.Goals as goal

pub returns : goal.returns
returns c = start_steady
