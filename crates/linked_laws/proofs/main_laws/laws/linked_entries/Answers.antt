use Rattle.linked_laws.proofs.main_laws.Mains.{linked_entries}
use Rattle.linked_laws.proofs.main_laws.laws.linked_entries.Goals as goal

pub returns : goal.returns
returns c = λ names. linked_entries {names = names}
