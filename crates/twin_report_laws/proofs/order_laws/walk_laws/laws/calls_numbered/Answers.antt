use Rattle.twin_report_laws.proofs.order_laws.walk_laws.Shown.{calls_numbered}
use Rattle.twin_report_laws.proofs.order_laws.walk_laws.laws.calls_numbered.Goals as goal

pub returns : goal.returns
returns c = calls_numbered
