use Rattle.covered_runs.proofs.machine_sound.covered_start.Pointed.{objects_covered}
use Rattle.covered_runs.proofs.machine_sound.covered_start.laws.objects_covered.Goals as goal

pub returns : goal.returns
returns c = objects_covered
