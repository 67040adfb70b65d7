use Rattle.ref_lib.proofs.memory_laws.Copies.{written_follows}
use Rattle.ref_lib.proofs.memory_laws.laws.write_follows.Goals as goal

pub returns : goal.returns
returns c table types memory place t value known = written_follows table types memory known place t value
