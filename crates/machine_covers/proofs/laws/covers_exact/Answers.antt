use Rattle.machine_covers.proofs.Whole.{covers_exact}
use Rattle.machine_covers.proofs.laws.covers_exact.Goals as goal

pub returns : goal.returns
returns c p space system family machine is valid system_is = covers_exact p space system family machine is valid system_is
