use Rattle.ref_lib.proofs.memory_laws.Follow.{with_more}
use Rattle.ref_lib.proofs.memory_laws.laws.new_follows.Goals as goal

pub returns : goal.returns
returns c = with_more
