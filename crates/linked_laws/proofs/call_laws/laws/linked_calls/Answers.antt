use Rattle.linked_laws.proofs.call_laws.Values.{calls_of_values}
use Rattle.linked_laws.proofs.call_laws.laws.linked_calls.Goals as goal

pub returns : goal.returns
returns c = λ names. calls_of_values {names = names}
