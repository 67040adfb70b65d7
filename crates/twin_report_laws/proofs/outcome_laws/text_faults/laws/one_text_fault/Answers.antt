use Rattle.twin_report_laws.proofs.outcome_laws.text_faults.Texts.{one_text_fault}
use Rattle.twin_report_laws.proofs.outcome_laws.text_faults.laws.one_text_fault.Goals as goal

pub returns : goal.returns
returns c = one_text_fault
