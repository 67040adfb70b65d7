use Rattle.linked_laws.proofs.sized_laws.Whole.{sizes_kept}
use Rattle.linked_laws.proofs.sized_laws.laws.sizes_kept.Goals as goal

pub returns : goal.returns
returns c = sizes_kept
