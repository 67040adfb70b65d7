use Rattle.twin_report_laws.proofs.rows.Whole.{one_system}
use Rattle.twin_report_laws.proofs.rows.laws.one_system.Goals as goal

pub returns : goal.returns
returns c = one_system
