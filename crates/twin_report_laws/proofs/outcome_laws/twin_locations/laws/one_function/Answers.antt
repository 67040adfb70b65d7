use Rattle.twin_report_laws.proofs.outcome_laws.twin_locations.Whole.{one_function}
use Rattle.twin_report_laws.proofs.outcome_laws.twin_locations.laws.one_function.Goals as goal

pub returns : goal.returns
returns c = one_function
