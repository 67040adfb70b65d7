use Rattle.twin_report_laws.proofs.order_laws.Orders.{made_ordered}
use Rattle.twin_report_laws.proofs.order_laws.laws.made_ordered.Goals as goal

pub returns : goal.returns
returns c = made_ordered
