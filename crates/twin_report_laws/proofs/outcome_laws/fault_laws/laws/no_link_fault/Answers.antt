use Rattle.twin_report_laws.proofs.outcome_laws.fault_laws.Faults.{no_link_fault}
use Rattle.twin_report_laws.proofs.outcome_laws.fault_laws.laws.no_link_fault.Goals as goal

pub returns : goal.returns
returns c = λ entered. no_link_fault {entered = entered}
