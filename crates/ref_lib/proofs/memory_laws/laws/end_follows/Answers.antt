use Rattle.ref_lib.proofs.memory_laws.Follow.{with_end}
use Rattle.ref_lib.proofs.memory_laws.laws.end_follows.Goals as goal

pub returns : goal.returns
returns c = with_end
