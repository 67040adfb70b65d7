use Rattle.stop_places.specs.Targets.{enders}
use Rattle.stop_places.proofs.targets.is_ender.Goals as goal

pub returns : goal.returns
unfolding enders
returns c = c.is_named.ensures
