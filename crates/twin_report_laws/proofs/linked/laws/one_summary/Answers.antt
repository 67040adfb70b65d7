use Rattle.twin_report_laws.proofs.linked.Whole.{one_summary}
use Rattle.twin_report_laws.proofs.linked.laws.one_summary.Goals as goal

pub returns : goal.returns
returns c = λ entered. one_summary {entered = entered}
