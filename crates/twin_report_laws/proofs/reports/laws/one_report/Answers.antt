use Rattle.twin_report_laws.proofs.reports.Whole.{one_report}
use Rattle.twin_report_laws.proofs.reports.laws.one_report.Goals as goal

pub returns : goal.returns
returns c = one_report
