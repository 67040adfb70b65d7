use Rattle.linked_laws.proofs.alike_laws.Entities.{entity_types}
use Rattle.linked_laws.proofs.alike_laws.laws.entity_types.Goals as goal

pub returns : goal.returns
returns c = λ names. entity_types {names = names}
