use Rattle.parsed_tree_laws.proofs.reading_laws.Reading.{one_tree}
use Rattle.parsed_tree_laws.proofs.reading_laws.laws.one_tree.Goals as goal

pub returns : goal.returns
returns c = one_tree
