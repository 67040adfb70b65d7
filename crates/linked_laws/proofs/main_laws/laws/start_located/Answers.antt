use Rattle.linked_laws.proofs.main_laws.Mains.{located}
use Rattle.linked_laws.proofs.main_laws.laws.start_located.Goals as goal

pub returns : goal.returns
returns c = λ names. located {names = names}
