use Rattle.linked_laws.proofs.system_laws.fact_laws.Facts.{members_known}
use Rattle.linked_laws.proofs.system_laws.fact_laws.laws.members_known.Goals as goal

pub returns : goal.returns
returns c = members_known
