use Rattle.twin_report_laws.proofs.answers.Whole.{one_text}
use Rattle.twin_report_laws.proofs.answers.laws.one_text.Goals as goal

pub returns : goal.returns
returns c = one_text
