use Rattle.ref_lib.proofs.memory_laws.Changes.{typed_follows}
use Rattle.ref_lib.proofs.memory_laws.laws.typed_follows.Goals as goal

pub returns : goal.returns
returns c = typed_follows
