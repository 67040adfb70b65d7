use Rattle.linked_laws.proofs.location_laws.named_laws.Whole.{linked_whole}
use Rattle.linked_laws.proofs.location_laws.named_laws.laws.linked_whole.Goals as goal

pub returns : goal.returns
returns c = λ entered. linked_whole {entered = entered}
