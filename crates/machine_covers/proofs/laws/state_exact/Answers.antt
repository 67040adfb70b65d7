use Rattle.machine_covers.proofs.Whole.{state_exact}
use Rattle.machine_covers.proofs.laws.state_exact.Goals as goal

pub returns : goal.returns
returns c world state range valid known = state_exact world state range valid known
