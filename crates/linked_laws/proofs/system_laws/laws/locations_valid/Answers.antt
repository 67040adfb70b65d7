use Rattle.linked_laws.proofs.system_laws.Functions.{locations_valid}
use Rattle.linked_laws.proofs.system_laws.laws.locations_valid.Goals as goal

pub returns : goal.returns
returns c = locations_valid
