use Rattle.covered_runs.proofs.machine_sound.Scenes.{every_run_is_covered}
use Rattle.covered_runs.proofs.machine_sound.laws.every_run_is_covered.Goals as goal

pub returns : goal.returns
returns c = every_run_is_covered
