use Rattle.linked_laws.proofs.return_laws.Returns.{linked_returns}
use Rattle.linked_laws.proofs.return_laws.laws.linked_returns.Goals as goal

pub returns : goal.returns
returns c = λ names. linked_returns {names = names}
