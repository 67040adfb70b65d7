use Rattle.stop_places.specs.Targets.{walkers}
use Rattle.stop_places.proofs.targets.is_walker.Goals as goal

pub returns : goal.returns
unfolding walkers
returns c = c.is_named.ensures
