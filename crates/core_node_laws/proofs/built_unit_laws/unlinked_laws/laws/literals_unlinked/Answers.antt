use Rattle.core_node_laws.proofs.built_unit_laws.unlinked_laws.Unlinked.{literals_unlinked}
use Rattle.core_node_laws.proofs.built_unit_laws.unlinked_laws.laws.literals_unlinked.Goals as goal

pub returns : goal.returns
returns c = literals_unlinked
