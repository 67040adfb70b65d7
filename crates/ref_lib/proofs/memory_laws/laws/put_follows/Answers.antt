use Rattle.ref_lib.proofs.memory_laws.Changes.{put_follows}
use Rattle.ref_lib.proofs.memory_laws.laws.put_follows.Goals as goal

pub returns : goal.returns
returns c = put_follows
