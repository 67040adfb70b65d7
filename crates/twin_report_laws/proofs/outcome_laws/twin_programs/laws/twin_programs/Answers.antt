use Rattle.twin_report_laws.proofs.outcome_laws.twin_programs.Whole.{twin_programs}
use Rattle.twin_report_laws.proofs.outcome_laws.twin_programs.laws.twin_programs.Goals as goal

pub returns : goal.returns
returns c = λ entered. twin_programs {entered = entered}
