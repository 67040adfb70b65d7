use Rattle.twin_report_laws.proofs.order_laws.walk_laws.Shown.{tags_completed}
use Rattle.twin_report_laws.proofs.order_laws.walk_laws.laws.tags_completed.Goals as goal

pub returns : goal.returns
returns c = tags_completed
