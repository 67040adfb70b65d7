use Rattle.text_units.proofs.KindLines.{kinds_built}
use Rattle.text_units.proofs.laws.kinds_built.Goals as goal

pub returns : goal.returns
returns c = kinds_built
