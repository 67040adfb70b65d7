use Rattle.report_cli.proofs.covered_reports.Reports.{effects_covered}
use Rattle.report_cli.proofs.covered_reports.laws.effects_covered.Goals as goal

pub returns : goal.returns
returns c = effects_covered
