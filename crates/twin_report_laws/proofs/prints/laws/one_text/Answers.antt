use Rattle.twin_report_laws.proofs.prints.Whole.{one_text}
use Rattle.twin_report_laws.proofs.prints.laws.one_text.Goals as goal

pub returns : goal.returns
returns c = one_text
