use Rattle.linked_laws.proofs.sized_laws.Whole.{merged_sized}
use Rattle.linked_laws.proofs.sized_laws.laws.merged_sized.Goals as goal

pub returns : goal.returns
returns c = merged_sized
