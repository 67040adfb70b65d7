use Rattle.covered_runs.proofs.machine_sound.covered_start.Fixed.{fixed_covered}
use Rattle.covered_runs.proofs.machine_sound.covered_start.laws.fixed_covered.Goals as goal

pub returns : goal.returns
returns c = fixed_covered
