use Rattle.ref_lib.proofs.memory_laws.Changes.{zero_follows}
use Rattle.ref_lib.proofs.memory_laws.laws.zero_follows.Goals as goal

pub returns : goal.returns
returns c = zero_follows
