use Rattle.twin_report_laws.proofs.order_laws.walk_laws.Lasting.{items_last}
use Rattle.twin_report_laws.proofs.order_laws.walk_laws.laws.items_last.Goals as goal

pub returns : goal.returns
returns c = items_last
