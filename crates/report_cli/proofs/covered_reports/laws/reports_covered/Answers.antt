use Rattle.report_cli.proofs.covered_reports.Reports.{reports_covered}
use Rattle.report_cli.proofs.covered_reports.laws.reports_covered.Goals as goal

pub returns : goal.returns
returns c = reports_covered
