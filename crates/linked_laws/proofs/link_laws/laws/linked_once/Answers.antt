use Rattle.linked_laws.proofs.link_laws.Wholeness.{named_once}
use Rattle.linked_laws.proofs.link_laws.laws.linked_once.Goals as goal

pub returns : goal.returns
returns c = λ names. named_once {names = names}
