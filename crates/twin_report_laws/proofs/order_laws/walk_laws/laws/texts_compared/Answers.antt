use Rattle.twin_report_laws.proofs.order_laws.walk_laws.Texts.{texts_compared}
use Rattle.twin_report_laws.proofs.order_laws.walk_laws.laws.texts_compared.Goals as goal

pub returns : goal.returns
returns c = texts_compared
