use Rattle.twin_report_laws.proofs.systems.Itself.{leads_to_itself}
use Rattle.twin_report_laws.proofs.systems.laws.leads_to_itself.Goals as goal

pub returns : goal.returns
returns c = leads_to_itself
