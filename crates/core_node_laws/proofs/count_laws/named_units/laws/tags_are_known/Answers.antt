use Rattle.core_node_laws.proofs.count_laws.named_units.Reading.{tags_known}
use Rattle.core_node_laws.proofs.count_laws.named_units.laws.tags_are_known.Goals as goal

pub returns : goal.returns
returns c = tags_known
