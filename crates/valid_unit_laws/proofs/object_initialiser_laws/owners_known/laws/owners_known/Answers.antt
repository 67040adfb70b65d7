use Rattle.valid_unit_laws.proofs.object_initialiser_laws.owners_known.Known.{owners_known}
use Rattle.valid_unit_laws.proofs.object_initialiser_laws.owners_known.laws.owners_known.Goals as goal

pub returns : goal.returns
returns c = owners_known
