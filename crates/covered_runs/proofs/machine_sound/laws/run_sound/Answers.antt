use Rattle.covered_runs.proofs.machine_sound.Runs.{run_sound}
use Rattle.covered_runs.proofs.machine_sound.laws.run_sound.Goals as goal

pub returns : goal.returns
returns c = run_sound
