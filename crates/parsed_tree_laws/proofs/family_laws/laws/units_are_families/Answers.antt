use Rattle.parsed_tree_laws.proofs.family_laws.Reading.{units_families}
use Rattle.parsed_tree_laws.proofs.family_laws.laws.units_are_families.Goals as goal

pub returns : goal.returns
returns c = units_families
