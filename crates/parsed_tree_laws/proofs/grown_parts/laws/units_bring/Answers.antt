use Rattle.parsed_tree_laws.proofs.grown_parts.Reading.{units_bring}
use Rattle.parsed_tree_laws.proofs.grown_parts.laws.units_bring.Goals as goal

pub returns : goal.returns
returns c = units_bring
