use Rattle.twin_report_laws.proofs.outcome_laws.twin_words.Whole.{as_many_locations}
use Rattle.twin_report_laws.proofs.outcome_laws.twin_words.laws.as_many_locations.Goals as goal

pub returns : goal.returns
returns c = as_many_locations
