use Rattle.twin_report_laws.proofs.apart.Units.{right_apart}
use Rattle.twin_report_laws.proofs.apart.laws.right_apart.Goals as goal

pub returns : goal.returns
returns c = right_apart
