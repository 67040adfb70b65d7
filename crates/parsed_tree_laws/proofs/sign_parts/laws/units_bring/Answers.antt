use Rattle.parsed_tree_laws.proofs.sign_parts.Reading.{units_bring}
use Rattle.parsed_tree_laws.proofs.sign_parts.laws.units_bring.Goals as goal

pub returns : goal.returns
returns c = units_bring
