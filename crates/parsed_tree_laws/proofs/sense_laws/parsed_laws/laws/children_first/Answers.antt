use Rattle.parsed_tree_laws.proofs.sense_laws.parsed_laws.InOrder.{children_first}
use Rattle.parsed_tree_laws.proofs.sense_laws.parsed_laws.laws.children_first.Goals as goal

pub returns : goal.returns
returns c = λ tokens unit tree tag_number is. children_first tokens unit tree tag_number is
