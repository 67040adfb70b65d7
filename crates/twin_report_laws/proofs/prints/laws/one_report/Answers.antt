use Rattle.twin_report_laws.proofs.prints.Whole.{one_report}
use Rattle.twin_report_laws.proofs.prints.laws.one_report.Goals as goal

pub returns : goal.returns
returns c = one_report
