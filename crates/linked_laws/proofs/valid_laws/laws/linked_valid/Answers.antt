use Rattle.linked_laws.proofs.valid_laws.Whole.{linked_valid}
use Rattle.linked_laws.proofs.valid_laws.laws.linked_valid.Goals as goal

pub returns : goal.returns
returns c = λ names. linked_valid {names = names}
