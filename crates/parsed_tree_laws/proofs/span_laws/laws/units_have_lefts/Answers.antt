use Rattle.parsed_tree_laws.proofs.span_laws.Lefts.{units_have_lefts}
use Rattle.parsed_tree_laws.proofs.span_laws.laws.units_have_lefts.Goals as goal

pub returns : goal.returns
returns c = units_have_lefts
