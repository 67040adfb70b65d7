use Rattle.linked_laws.proofs.system_laws.fact_laws.Facts.{facts_valid}
use Rattle.linked_laws.proofs.system_laws.fact_laws.laws.facts_valid.Goals as goal

pub returns : goal.returns
returns c = facts_valid
