use Rattle.unit_walk.proofs.filling_laws.Worlds.{fills_one}
use Rattle.unit_walk.proofs.filling_laws.laws.fills_on.Goals as goal

pub returns : goal.returns
returns c = fills_one
