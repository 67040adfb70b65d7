use Rattle.linked_laws.proofs.location_laws.named_laws.Whole.{linked_names}
use Rattle.linked_laws.proofs.location_laws.named_laws.laws.linked_names.Goals as goal

pub returns : goal.returns
returns c = λ entered. linked_names {entered = entered}
