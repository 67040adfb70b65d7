use Rattle.machine_covers.proofs.Official.{arguments_exact}
use Rattle.machine_covers.proofs.laws.arguments_exact.Goals as goal

pub returns : goal.returns
returns c world memory arguments = arguments_exact world memory arguments
