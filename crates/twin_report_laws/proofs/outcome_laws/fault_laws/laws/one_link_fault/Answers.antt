use Rattle.twin_report_laws.proofs.outcome_laws.fault_laws.Faults.{one_link_fault}
use Rattle.twin_report_laws.proofs.outcome_laws.fault_laws.laws.one_link_fault.Goals as goal

pub returns : goal.returns
returns c = one_link_fault
