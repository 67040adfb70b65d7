use Rattle.twin_report_laws.proofs.systems.Leading.{closed_there}
use Rattle.twin_report_laws.proofs.systems.laws.closed_there.Goals as goal

pub returns : goal.returns
returns c = closed_there
