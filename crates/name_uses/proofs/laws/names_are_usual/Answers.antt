use Rattle.name_uses.proofs.Known as known
use Rattle.name_uses.proofs.laws.names_are_usual.Goals as goal

pub returns : goal.returns
returns c = known.names_are_usual
