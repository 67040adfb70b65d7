use Rattle.covered_runs.proofs.machine_sound.covered_start.Arguments.{texts_covered}
use Rattle.covered_runs.proofs.machine_sound.covered_start.laws.texts_covered.Goals as goal

pub returns : goal.returns
returns c = texts_covered
