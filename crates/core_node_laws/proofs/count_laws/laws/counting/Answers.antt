use Rattle.core_node_laws.proofs.count_laws.Main.{counting}
use Rattle.core_node_laws.proofs.count_laws.laws.counting.Goals as goal

pub returns : goal.returns
returns c = counting
