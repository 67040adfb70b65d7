use Rattle.twin_report_laws.proofs.linked.Whole.{one_report}
use Rattle.twin_report_laws.proofs.linked.laws.one_report.Goals as goal

pub returns : goal.returns
returns c = λ entered. one_report {entered = entered}
