use Rattle.twin_report_laws.proofs.order_laws.Orders.{stops_ordered}
use Rattle.twin_report_laws.proofs.order_laws.laws.stops_ordered.Goals as goal

pub returns : goal.returns
returns c = stops_ordered
