use Rattle.linked_laws.proofs.location_laws.name_laws.Whole.{distinct}
use Rattle.linked_laws.proofs.location_laws.name_laws.laws.names_distinct.Goals as goal

pub returns : goal.returns
returns c = distinct
