use Rattle.covered_runs.proofs.machine_sound.Steps.{step_sound}
use Rattle.covered_runs.proofs.machine_sound.laws.step_sound.Goals as goal

pub returns : goal.returns
returns c = step_sound
