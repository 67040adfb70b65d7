use Rattle.twin_report_laws.proofs.outcome_laws.text_faults.Texts.{right_twins}
use Rattle.twin_report_laws.proofs.outcome_laws.text_faults.laws.right_twins.Goals as goal

pub returns : goal.returns
returns c = right_twins
