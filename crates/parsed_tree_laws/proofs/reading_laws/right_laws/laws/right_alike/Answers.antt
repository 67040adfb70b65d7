use Rattle.parsed_tree_laws.proofs.reading_laws.right_laws.RightAlike.{right_alike}
use Rattle.parsed_tree_laws.proofs.reading_laws.right_laws.laws.right_alike.Goals as goal

pub returns : goal.returns
returns c = right_alike
