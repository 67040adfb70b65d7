use Rattle.twin_report_laws.proofs.outcome_laws.twin_locations.Whole.{twin_locations}
use Rattle.twin_report_laws.proofs.outcome_laws.twin_locations.laws.twin_locations.Goals as goal

pub returns : goal.returns
returns c = twin_locations
