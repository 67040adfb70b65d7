use Rattle.twin_report_laws.proofs.linked.Whole.{one_text}
use Rattle.twin_report_laws.proofs.linked.laws.one_text.Goals as goal

pub returns : goal.returns
returns c = λ entered. one_text {entered = entered}
