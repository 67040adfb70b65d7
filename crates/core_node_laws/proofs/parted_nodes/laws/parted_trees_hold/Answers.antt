use Rattle.std.proofs.Common.{◌≡◌, true}
use Rattle.core_node_laws.proofs.parted_nodes.All.{near_kept}
use Rattle.core_node_laws.proofs.parted_nodes.laws.parted_trees_hold.Goals as goal

pub returns : goal.returns
returns c = λ asks s senses near are closed gives i is. near_kept (λ x. asks x ≡ true) s senses (λ j. near j ≡ true) are closed gives i is
