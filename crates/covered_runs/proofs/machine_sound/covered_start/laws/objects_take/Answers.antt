use Rattle.covered_runs.proofs.machine_sound.covered_start.Static.{objects_take}
use Rattle.covered_runs.proofs.machine_sound.covered_start.laws.objects_take.Goals as goal

pub returns : goal.returns
returns c = objects_take
