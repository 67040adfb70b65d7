use Rattle.linked_laws.proofs.Ranges.{in_range}
use Rattle.linked_laws.proofs.laws.linked_range.Goals as goal

pub returns : goal.returns
returns c = λ names. in_range {names = names}
