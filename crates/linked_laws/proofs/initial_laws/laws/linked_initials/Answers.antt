use Rattle.linked_laws.proofs.initial_laws.Initials.{linked_initials}
use Rattle.linked_laws.proofs.initial_laws.laws.linked_initials.Goals as goal

pub returns : goal.returns
returns c = λ names. linked_initials {names = names}
