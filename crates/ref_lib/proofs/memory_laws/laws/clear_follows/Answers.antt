use Rattle.ref_lib.proofs.memory_laws.Changes.{clear_follows}
use Rattle.ref_lib.proofs.memory_laws.laws.clear_follows.Goals as goal

pub returns : goal.returns
returns c = clear_follows
