use Rattle.unit_report.proofs.report_json.Read.{same_lines}
use Rattle.unit_report.proofs.report_json.laws.same_lines.Goals as goal

pub returns : goal.returns
returns c = λ space names system F edges. same_lines space names system F edges
