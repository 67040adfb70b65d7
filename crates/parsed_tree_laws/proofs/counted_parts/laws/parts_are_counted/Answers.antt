use Rattle.parsed_tree_laws.proofs.counted_parts.Read.{parts_are_counted}
use Rattle.parsed_tree_laws.proofs.counted_parts.laws.parts_are_counted.Goals as goal

pub returns : goal.returns
returns c = parts_are_counted
