use Rattle.unit_walk.proofs.filling_laws.Worlds.{fills_first}
use Rattle.unit_walk.proofs.filling_laws.laws.fills_first.Goals as goal

pub returns : goal.returns
returns c = fills_first
