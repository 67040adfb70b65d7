use Rattle.covering_laws.proofs.object_contents.Outside.{outside_placed}
use Rattle.covering_laws.proofs.object_contents.laws.outside_placed.Goals as goal

pub returns : goal.returns
returns c p made some = outside_placed p made some
