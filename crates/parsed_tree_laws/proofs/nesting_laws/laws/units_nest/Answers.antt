use Rattle.parsed_tree_laws.proofs.nesting_laws.Nesting.{units_nest}
use Rattle.parsed_tree_laws.proofs.nesting_laws.laws.units_nest.Goals as goal

pub returns : goal.returns
returns c = units_nest
