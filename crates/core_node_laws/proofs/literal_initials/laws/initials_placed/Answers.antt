use Rattle.core_node_laws.proofs.literal_initials.All.{placed}
use Rattle.core_node_laws.proofs.literal_initials.laws.initials_placed.Goals as goal

pub returns : goal.returns
returns c = placed
