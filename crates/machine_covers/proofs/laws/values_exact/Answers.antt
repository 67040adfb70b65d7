use Rattle.machine_covers.proofs.Official.{values_exact}
use Rattle.machine_covers.proofs.laws.values_exact.Goals as goal

pub returns : goal.returns
returns c world memory s n v = values_exact world memory s n v
