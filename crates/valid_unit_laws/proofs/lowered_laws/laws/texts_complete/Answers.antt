use Rattle.valid_unit_laws.proofs.lowered_laws.Complete.{texts_complete}
use Rattle.valid_unit_laws.proofs.lowered_laws.laws.texts_complete.Goals as goal

pub returns : goal.returns
returns c = texts_complete
