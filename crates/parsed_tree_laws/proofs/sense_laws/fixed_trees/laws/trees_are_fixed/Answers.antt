use Rattle.parsed_tree_laws.proofs.sense_laws.fixed_trees.Fixing.{trees_fixed}
use Rattle.parsed_tree_laws.proofs.sense_laws.fixed_trees.laws.trees_are_fixed.Goals as goal

pub returns : goal.returns
returns c = trees_fixed
