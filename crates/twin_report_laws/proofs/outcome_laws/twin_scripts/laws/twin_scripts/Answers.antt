use Rattle.twin_report_laws.proofs.outcome_laws.twin_scripts.Whole.{twin_scripts}
use Rattle.twin_report_laws.proofs.outcome_laws.twin_scripts.laws.twin_scripts.Goals as goal

pub returns : goal.returns
returns c = twin_scripts
