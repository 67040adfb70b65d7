use Rattle.twin_report_laws.proofs.outcome_laws.used_names.Whole.{right_uses_once}
use Rattle.twin_report_laws.proofs.outcome_laws.used_names.laws.right_uses_once.Goals as goal

pub returns : goal.returns
returns c = right_uses_once
