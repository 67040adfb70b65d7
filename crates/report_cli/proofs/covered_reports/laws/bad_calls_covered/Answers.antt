use Rattle.report_cli.proofs.covered_reports.Reports.{bad_calls_covered}
use Rattle.report_cli.proofs.covered_reports.laws.bad_calls_covered.Goals as goal

pub returns : goal.returns
returns c = bad_calls_covered
