use Rattle.unit_worlds.proofs.unit_limits.Staying.{open_tags_small}
use Rattle.unit_worlds.proofs.unit_limits.laws.open_tags_are_small.Goals as goal

pub returns : goal.returns
returns c = open_tags_small
