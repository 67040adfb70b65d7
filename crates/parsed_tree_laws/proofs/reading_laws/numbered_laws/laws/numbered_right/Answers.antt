use Rattle.parsed_tree_laws.proofs.reading_laws.numbered_laws.Whole.{numbered}
use Rattle.parsed_tree_laws.proofs.reading_laws.numbered_laws.laws.numbered_right.Goals as goal

pub returns : goal.returns
returns c = numbered
