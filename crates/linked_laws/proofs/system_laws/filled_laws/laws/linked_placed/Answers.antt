use Rattle.linked_laws.proofs.system_laws.filled_laws.Placed.{linked_placed}
use Rattle.linked_laws.proofs.system_laws.filled_laws.laws.linked_placed.Goals as goal

pub returns : goal.returns
returns c = λ names. linked_placed {names = names}
