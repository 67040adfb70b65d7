use Rattle.declaration_laws.proofs.name_order.Ordered.{units_ordered}
use Rattle.declaration_laws.proofs.name_order.laws.units_ordered.Goals as goal

pub returns : goal.returns
returns c = units_ordered
