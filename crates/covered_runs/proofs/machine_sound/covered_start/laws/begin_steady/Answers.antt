use Rattle.covered_runs.proofs.machine_sound.covered_start.Begun.{begin_steady}
use Rattle.covered_runs.proofs.machine_sound.covered_start.laws.begin_steady.Goals as goal

pub returns : goal.returns
returns c = begin_steady
