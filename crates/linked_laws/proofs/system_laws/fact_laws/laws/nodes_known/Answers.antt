use Rattle.linked_laws.proofs.system_laws.fact_laws.Facts.{nodes_known}
use Rattle.linked_laws.proofs.system_laws.fact_laws.laws.nodes_known.Goals as goal

pub returns : goal.returns
returns c = nodes_known
