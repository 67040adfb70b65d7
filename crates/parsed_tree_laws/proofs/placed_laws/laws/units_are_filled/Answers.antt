use Rattle.parsed_tree_laws.proofs.placed_laws.Whole.{units_filled}
use Rattle.parsed_tree_laws.proofs.placed_laws.laws.units_are_filled.Goals as goal

pub returns : goal.returns
returns c = λ tokens unit tree tag_number name u is right. units_filled tokens unit tree tag_number name u is right
