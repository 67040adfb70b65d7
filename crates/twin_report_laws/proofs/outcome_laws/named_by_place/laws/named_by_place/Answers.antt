use Rattle.twin_report_laws.proofs.outcome_laws.named_by_place.Whole.{named_by_place}
use Rattle.twin_report_laws.proofs.outcome_laws.named_by_place.laws.named_by_place.Goals as goal

pub returns : goal.returns
returns c = named_by_place
