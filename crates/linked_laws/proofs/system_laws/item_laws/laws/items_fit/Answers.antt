use Rattle.linked_laws.proofs.system_laws.item_laws.Items.{items_fit}
use Rattle.linked_laws.proofs.system_laws.item_laws.laws.items_fit.Goals as goal

pub returns : goal.returns
returns c = items_fit
