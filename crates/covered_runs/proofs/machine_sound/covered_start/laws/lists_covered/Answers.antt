use Rattle.covered_runs.proofs.machine_sound.covered_start.Arguments.{lists_covered}
use Rattle.covered_runs.proofs.machine_sound.covered_start.laws.lists_covered.Goals as goal

pub returns : goal.returns
returns c = lists_covered
