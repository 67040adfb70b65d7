use Rattle.linked_laws.proofs.location_laws.named_laws.Whole.{linked_distinct}
use Rattle.linked_laws.proofs.location_laws.named_laws.laws.linked_distinct.Goals as goal

pub returns : goal.returns
returns c = λ entered. linked_distinct {entered = entered}
