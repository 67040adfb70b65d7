use Rattle.linked_laws.proofs.system_laws.item_laws.Spots.{spots_fit}
use Rattle.linked_laws.proofs.system_laws.item_laws.laws.spots_fit.Goals as goal

pub returns : goal.returns
returns c = spots_fit
