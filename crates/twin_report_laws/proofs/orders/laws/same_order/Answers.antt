use Rattle.twin_report_laws.proofs.orders.Whole.{same_order}
use Rattle.twin_report_laws.proofs.orders.laws.same_order.Goals as goal

pub returns : goal.returns
returns c = same_order
