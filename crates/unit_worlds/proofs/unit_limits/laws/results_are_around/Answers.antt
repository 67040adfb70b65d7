use Rattle.unit_worlds.proofs.unit_limits.Within.{results_around}
use Rattle.unit_worlds.proofs.unit_limits.laws.results_are_around.Goals as goal

pub returns : goal.returns
returns c = results_around
