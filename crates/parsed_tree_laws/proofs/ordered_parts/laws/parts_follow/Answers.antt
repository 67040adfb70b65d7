use Rattle.parsed_tree_laws.proofs.ordered_parts.Read.{parts_follow}
use Rattle.parsed_tree_laws.proofs.ordered_parts.laws.parts_follow.Goals as goal

pub returns : goal.returns
returns c = parts_follow
