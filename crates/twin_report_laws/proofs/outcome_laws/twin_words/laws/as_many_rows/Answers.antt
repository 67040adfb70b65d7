use Rattle.twin_report_laws.proofs.outcome_laws.twin_words.Whole.{as_many_rows}
use Rattle.twin_report_laws.proofs.outcome_laws.twin_words.laws.as_many_rows.Goals as goal

pub returns : goal.returns
returns c = as_many_rows
