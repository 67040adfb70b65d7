use Rattle.machine_covers.proofs.Official.{memory_exact}
use Rattle.machine_covers.proofs.laws.memory_exact.Goals as goal

pub returns : goal.returns
returns c world memory known = memory_exact world memory known
