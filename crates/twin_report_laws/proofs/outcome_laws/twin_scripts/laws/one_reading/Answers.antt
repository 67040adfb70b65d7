use Rattle.twin_report_laws.proofs.outcome_laws.twin_scripts.Reading.{one_reading}
use Rattle.twin_report_laws.proofs.outcome_laws.twin_scripts.laws.one_reading.Goals as goal

pub returns : goal.returns
returns c = one_reading
