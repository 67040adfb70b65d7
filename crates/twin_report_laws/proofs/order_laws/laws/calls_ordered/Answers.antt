use Rattle.twin_report_laws.proofs.order_laws.Orders.{calls_ordered}
use Rattle.twin_report_laws.proofs.order_laws.laws.calls_ordered.Goals as goal

pub returns : goal.returns
returns c = calls_ordered
