use Rattle.linked_laws.proofs.alike_laws.Plain.{linked_plain}
use Rattle.linked_laws.proofs.alike_laws.laws.linked_plain.Goals as goal

pub returns : goal.returns
returns c = λ names. linked_plain {names = names}
