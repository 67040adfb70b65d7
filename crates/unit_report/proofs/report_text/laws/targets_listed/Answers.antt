use Rattle.unit_report.proofs.report_text.Listed.{targets_listed}
use Rattle.unit_report.proofs.report_text.laws.targets_listed.Goals as goal

pub returns : goal.returns
returns c = λ system F call location valid known. targets_listed system F call location valid known
